-- Reading a whole tape. Assumes nothing.
--   tape_of es      the tape that holds the records of the entries es
--   Next bs p e     the record of the entry e stands on the tape bs at its byte p
--   EntryAt bs p a  a is what the record at the byte p of the tape bs says
--   end_of f        what reading answers where it stops: the fault f, or the end of the tape
--   IsReading bs r  r is what reading the tape bs says: the bytes read are exactly the records of its entries, in order, and there
--                   reading stops, at the end of the tape or at its fault
use Rattle.std.specs.Prelude.{◌≡◌, ℕ, ◌+◌, ◌≤◌, List, ◌++◌, length, take, Some, None, Ok, Err, Option, Result}
use Rattle.std.specs.List.{flat_map}
use Rattle.records.specs.Layout.{bytes_of}
use Rattle.records.specs.Reading.{ReadAt}
use Rattle.records.specs.declared.entries.Entry.{Entry}
use Rattle.records.specs.declared.faults.TapeFault.{TapeFault}
use Rattle.records.specs.declared.reading.Record.{Record}
use Rattle.records.specs.declared.tapes.Reading.{Reading}

abbrev pub tape_of : List Entry → List ℕ
tape_of es = flat_map bytes_of es

pub record Next (bs : List ℕ) (p : ℕ) (e : Entry) : Type 0 where
  pub within : p + length (bytes_of e) ≤ length bs
  pub exact : take (p + length (bytes_of e)) bs ≡ take p bs ++ bytes_of e

abbrev pub EntryAt : List ℕ → ℕ → Result (Option Entry) TapeFault → Type 0
EntryAt bs p (Ok (Some e)) = Next bs p e
EntryAt bs p (Ok None) = ReadAt bs p (Ok None)
EntryAt bs p (Err f) = ReadAt bs p (Err f)

abbrev pub end_of : Option TapeFault → Result (Option Record) TapeFault
end_of None = Ok None
end_of (Some f) = Err f

pub record IsReading (bs : List ℕ) (r : Reading) : Type 0 where
  pub within : r.bytes ≤ length bs
  pub exact : tape_of r.entries.items ≡ take r.bytes bs
  pub stops : ReadAt bs r.bytes (end_of r.fault)
