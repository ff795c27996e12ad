use Rattle.std.proofs.Common.{◌≡◌, ℕ, List, [], ◌∷◌, ◌++◌, append_assoc, arith}
use Rattle.records.proofs.text.line_of.Goals as goal

joined : (a b d e f : List ℕ) (s n : ℕ) → (((((((((a ++ s ∷ []) ++ b) ++ s ∷ []) ++ d) ++ s ∷ []) ++ e) ++ s ∷ []) ++ f) ++ n ∷ []) ≡ a ++ (s ∷ (b ++ (s ∷ (d ++ (s ∷ (e ++ (s ∷ (f ++ (n ∷ [])))))))))
joined a b d e f s n = simp append_assoc

pub returns : goal.returns
returns c = rw (c.push-5.ensures.ascii (omega arith), c.push_cents-3.ensures.bytes, c.push-4.ensures.ascii (omega arith), c.push_cents-2.ensures.bytes, c.push-3.ensures.ascii (omega arith), c.push_cents.ensures.bytes, c.push-2.ensures.ascii (omega arith), c.push_number-2.ensures.bytes, c.push.ensures.ascii (omega arith), c.push_number.ensures.bytes, c.new-text.ensures) (joined _ _ _ _ _ 32 10)
