-- The answers as text. Assumes nothing.
--   shares_text c zs   the character c, then for each of zs a space and its shortest decimal form
--   denied_text c g    the character c, " ? ", the number of the ground g in decimal, a space and the letter of its layer
use Rattle.std.specs.Prelude.{◌≡◌, ℕ, List, [], ◌∷◌, ◌++◌, ℤ, pos, codes, refl}
use Rattle.std.proofs.Math.Utf8.{encode}
use Rattle.std.specs.List.{flat_map}
use Rattle.std.specs.Fmt.{signed_decimal, digits}
use Rattle.figures.specs.Grounds.{ground_text}
use Rattle.figures.specs.declared.grounds.Ground.{Ground}
use Rattle.figures.specs.declared.grounds.Layer.TheVariants.{Rule}

abbrev pub shares_text : ℕ → List ℤ → List ℕ
shares_text c zs = encode c ++ flat_map (λ z. 32 ∷ signed_decimal z) zs

abbrev pub denied_text : ℕ → Ground → List ℕ
denied_text c g = encode c ++ (codes " ? " ++ ground_text g)

shares : shares_text 82 (pos 5062 ∷ pos 7595 ∷ []) ≡ codes "R 5062 7595"
unfolding encode digits
shares = refl

denied : denied_text 82 (record { number = 21; layer = Rule; place = 0 }) ≡ codes "R ? 21 r"
unfolding encode digits
denied = refl
