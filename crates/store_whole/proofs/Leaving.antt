-- A call that leaves by an error, and the test that fails there. By cases on the result. Assumes nothing.
use mathlib.Core.Path.{◌≡◌, sym, refl, ◌∙◌}
use mathlib.Core.Bool.{Bool, false}
use Rattle.std.specs.Prelude.{Result, Ok, Err, is_ok, IsErr}

is_not : {A E : Type 0} (r : Result A E) → IsErr r → is_ok r ≡ false
is_not (Ok a) h = sym h
is_not (Err e) h = refl

pub left-at : {A E : Type 0} {b : Bool} (r : Result A E) → IsErr r → b ≡ false → is_ok r ≡ b
left-at r h e = is_not r h ∙ sym e
