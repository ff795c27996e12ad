mod Answering
mod Clipping
mod Cuts
