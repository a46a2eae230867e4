-- The types of children against those of fields, from a place on.
use Rattle.std.proofs.Common.{◌≡◌, ℕ, zero, suc, ◌<◌, ◌≤◌, List, [], ◌∷◌, length, drop, drop_of_length-le, get_or, ◌↔◌, ap, sym, subst, ◌∙◌, arith}
use Rattle.arrow_types.specs.TypeData.{no_fields}
use Rattle.arrow_types.specs.Seen.{seen, seen_fields}
use Rattle.arrow_types.specs.declared.datatype.Field.{Field}
use Rattle.arrow_layout.specs.Layouts.{Layout, layouts, type_of}
use Rattle.arrow_layout.specs.WellFormed.{HaveTypes}

pub types_step : (fs : List Field) (ls : List Layout) (i : ℕ) (f : Field) (l : Layout) → i < length fs → i < length ls → f ≡ get_or fs i f → l ≡ get_or ls i l
    → HaveTypes (seen_fields (drop i fs)) (layouts (drop i ls)) ↔ ((seen f.dtype ≡ type_of l) × HaveTypes (seen_fields (drop (suc i) fs)) (layouts (drop (suc i) ls)))
types_step [] ls i f l h k e g = absurd (omega arith)
types_step (x ∷ fs) [] i f l h k e g = absurd (omega arith)
types_step (x ∷ fs) (y ∷ ls) zero f l h k e g =
    (λ w. (ap (λ z. seen z.dtype) e ∙ (w.0 ∙ ap type_of (sym g)), w.1), λ w. (ap (λ z. seen z.dtype) (sym e) ∙ (w.0 ∙ ap type_of g), w.1))
types_step (x ∷ fs) (y ∷ ls) (suc i) f l h k e g = types_step fs ls i f l (omega arith) (omega arith) e g

pub types_end : (fs : List Field) (ls : List Layout) (i : ℕ) → length fs ≤ i → length ls ≤ i → HaveTypes (seen_fields (drop i fs)) (layouts (drop i ls))
types_end fs ls i h k =
    subst (λ gs. HaveTypes (seen_fields gs) (layouts (drop i ls))) (sym (drop_of_length-le fs h))
    (subst (λ ks. HaveTypes no_fields (layouts ks)) (sym (drop_of_length-le ls k)) tt)
