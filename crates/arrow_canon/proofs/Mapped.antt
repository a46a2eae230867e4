-- A result whose value is mapped.
use Rattle.std.proofs.Common.{◌≡◌, sym, subst, Result, Ok, Err, IfOk}
use Rattle.std.specs.Prelude.{IsOkAnd, MatchResult}

pub map_ok : {X Y E : Type 0} (r : Result X E) (m : Result Y E) (f : X → Y) (P : X → Type 0) (Q : Y → Type 0)
    → MatchResult r (λ x. IsOkAnd m (λ y. y ≡ f x)) (λ e. m ≡ Err e) → IfOk r P → ((x : X) → P x → Q (f x)) → IfOk m Q
map_ok (Ok x) (Ok y) f P Q h p k = subst Q (sym h) (k x p)
map_ok (Ok x) (Err e) f P Q h p k = tt
map_ok (Err e) m f P Q h p k = subst (λ m. IfOk m Q) (sym h) tt
