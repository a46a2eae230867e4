-- The canonical layout of a layout of values is one of values.
use Rattle.std.proofs.Common.{sym, subst}
use Rattle.arrow_layout.specs.Denote.{denote}
use Rattle.arrow_layout.specs.Layouts.{Layout, nulls, booleans, primitives, binaries, fixed_size_binaries, views, lists, fixed_size_lists, structs, sparse_unions, dense_unions, dictionaries}
use Rattle.arrow_layout.specs.OfValues.{IsOfValues}
use Rattle.arrow_layout.specs.WellFormed.{WellFormed}
use Rattle.arrow_layout.proofs.ByForm.{canon-form}
use Rattle.arrow_canon.specs.Canonical.{canonical_of}

pub values_kept : (l : Layout) → WellFormed l → IsOfValues l → IsOfValues (canonical_of l)
values_kept (booleans t m vs) w h = subst IsOfValues (sym (canon-form t _ (denote (booleans t m vs)) w.0.of_form)) tt
values_kept (primitives t m vs) w h = subst IsOfValues (sym (canon-form t _ (denote (primitives t m vs)) w.0.of_form)) tt
values_kept (binaries t m os bs) w h = subst IsOfValues (sym (canon-form t _ (denote (binaries t m os bs)) w.0.of_form)) tt
values_kept (fixed_size_binaries t m k n bs) w h = subst IsOfValues (sym (canon-form t _ (denote (fixed_size_binaries t m k n bs)) w.0.of_form)) tt
values_kept (views t m vs buffers) w h = subst IsOfValues (sym (canon-form t _ (denote (views t m vs buffers)) w.0.of_form)) tt
values_kept (nulls t n) w h = absurd h
values_kept (lists t m os l) w h = absurd h
values_kept (fixed_size_lists t m k n l) w h = absurd h
values_kept (structs t m n ls) w h = absurd h
values_kept (sparse_unions t o ts ls) w h = absurd h
values_kept (dense_unions t o ts os ls) w h = absurd h
values_kept (dictionaries t u m ks l) w h = absurd h
