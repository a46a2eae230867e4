-- The form of a type that is stored as texts.
use Rattle.std.proofs.Common.{◌≡◌, Bool, true, false, refl, sym, ◌∙◌, Some}
use Rattle.arrow_types.specs.TypeData.{TypeData}
use Rattle.arrow_types.specs.TypeData as T
use Rattle.arrow_types.specs.Types.{physical_of}
use Rattle.arrow_bytes.specs.Binaries.{layout_in}
use Rattle.arrow_layout.specs.Forms.{Form, form_of, text_by, binaries_of, booleans_of, dictionaries_of, fixed_size_binaries_of, fixed_size_lists_of, lists_of, no_form, nulls_of, primitives_of, structs_of, unions_of, views_of}
use Rattle.arrow_layout.proofs.Physical.{physical_by, physical-by, list_kind}

not_texts : (t : TypeData) (large : Bool) → list_kind t ≡ layout_in true large → ⊥
not_texts (T.map f o) true e = cc
not_texts (T.map f o) false e = cc
not_texts (T.extension n t m) large e = not_texts t large e
not_texts _ true e = cc
not_texts _ false e = cc

by_form : (t : TypeData) (f : Form) (large : Bool) → physical_by t f ≡ Some (layout_in true large) → text_by f ≡ true
by_form t (binaries_of large true) l e = refl
by_form t (binaries_of false false) true e = cc
by_form t (binaries_of false false) false e = cc
by_form t (binaries_of true false) true e = cc
by_form t (binaries_of true false) false e = cc
by_form t (lists_of false u) large e = let same : list_kind t ≡ layout_in true large = cc in absurd (not_texts t large same)
by_form t (lists_of true u) true e = cc
by_form t (lists_of true u) false e = cc
by_form t (views_of true) l e = refl
by_form t (views_of false) true e = cc
by_form t (views_of false) false e = cc
by_form t nulls_of true e = cc
by_form t nulls_of false e = cc
by_form t booleans_of true e = cc
by_form t booleans_of false e = cc
by_form t (primitives_of p) true e = cc
by_form t (primitives_of p) false e = cc
by_form t (fixed_size_binaries_of k) true e = cc
by_form t (fixed_size_binaries_of k) false e = cc
by_form t (fixed_size_lists_of k u) true e = cc
by_form t (fixed_size_lists_of k u) false e = cc
by_form t (structs_of fs) true e = cc
by_form t (structs_of fs) false e = cc
by_form t (unions_of mode ids fs) true e = cc
by_form t (unions_of mode ids fs) false e = cc
by_form t (dictionaries_of k u) true e = cc
by_form t (dictionaries_of k u) false e = cc
by_form t no_form large e = cc

pub text_form : (t : TypeData) (large : Bool) → physical_of t ≡ Some (layout_in true large) → text_by (form_of t) ≡ true
text_form t large e = by_form t (form_of t) large (sym (physical-by t) ∙ e)
