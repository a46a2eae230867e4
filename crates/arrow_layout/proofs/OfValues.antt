-- A part of a layout of values is one of values.
use Rattle.std.proofs.Common.{ℕ}
use Rattle.arrow_layout.specs.Cut.{cut}
use Rattle.arrow_layout.specs.Layouts.{Layout, binaries, booleans, dense_unions, dictionaries, fixed_size_binaries, fixed_size_lists, lists, nulls, primitives, sparse_unions, structs, views}
use Rattle.arrow_layout.specs.OfValues.{IsOfValues}

pub cut_of_values : (l : Layout) (o n : ℕ) → IsOfValues l → IsOfValues (cut l o n)
cut_of_values (nulls t len) o n v = v
cut_of_values (booleans t m vs) o n v = v
cut_of_values (primitives t m vs) o n v = v
cut_of_values (binaries t m os bs) o n v = v
cut_of_values (fixed_size_binaries t m k len bs) o n v = v
cut_of_values (views t m vs buffers) o n v = v
cut_of_values (lists t m os l) o n v = v
cut_of_values (fixed_size_lists t m k len l) o n v = v
cut_of_values (structs t m len ls) o n v = v
cut_of_values (sparse_unions t s ts ls) o n v = v
cut_of_values (dense_unions t s ts os ls) o n v = v
cut_of_values (dictionaries t u m ks l) o n v = v
