-- Which layouts are in canonical form, said of the layout and its children alone.
use Rattle.std.specs.Prelude.{◌≡◌, ℕ, suc, pred, ◌≤◌, max, nat_eq, pos, Bool, true, false, List, [], ◌∷◌, map, length, replicate, Option, Some, None, ⊤}
use Rattle.std.specs.List.{list_all}
use Rattle.arrow_types.specs.Select.{nat_of}
use Rattle.arrow_buffers.specs.Bits.{Bits}
use Rattle.arrow_flat.specs.Slots.{Slot, is_valid}
use Rattle.arrow_flat.specs.Numbers.{zeros}
use Rattle.arrow_flat.specs.Views.{zero_view}
use Rattle.arrow_flat.specs.Packs.{view_limit, AreInOrder}
use Rattle.arrow_layout.specs.Forms.{form_of, primitive_by, fields_by, value_by}
use Rattle.arrow_layout.specs.Layouts.{Layout, nulls, booleans, primitives, binaries, fixed_size_binaries, views, lists, fixed_size_lists, structs, sparse_unions, dense_unions, dictionaries, Layouts, no_layouts, child, type_of, length_of}
use Rattle.arrow_layout.specs.Denote.{denote, rows}
use Rattle.arrow_flat.specs.Pieces.{chunks}
use Rattle.arrow_layout.specs.SlotsOf.{fill, fills}
use Rattle.arrow_layout.specs.WellFormed.{mask_bits, positions}
use Rattle.arrow_layout.specs.Canon.{is_among, occurrences, counts_after}

-- A mask has an unset bit, and no leading bits.
abbrev pub MaskIsNeeded : Option Bits → Type 0
MaskIsNeeded None = ⊤
MaskIsNeeded (Some b) = (b.lead ≡ 0) × (list_all (λ c. c) b.bits ≡ false)

-- It holds where the bit is unset.
abbrev pub AllUnset : {A : Type 0} → (A → Type 0) → List Bool → List A → Type 0
AllUnset P [] xs = ⊤
AllUnset P (b ∷ bits) [] = ⊤
AllUnset P (true ∷ bits) (x ∷ xs) = AllUnset P bits xs
AllUnset P (false ∷ bits) (x ∷ xs) = P x × AllUnset P bits xs

-- From a on the offsets end at the top, and don't rise over an unset bit.
abbrev pub FlatFrom : ℕ → ℕ → List ℕ → List Bool → Type 0
FlatFrom top a [] bits = a ≡ top
FlatFrom top a (b ∷ os) [] = FlatFrom top b os []
FlatFrom top a (b ∷ os) (true ∷ bits) = FlatFrom top b os bits
FlatFrom top a (b ∷ os) (false ∷ bits) = (b ≡ a) × FlatFrom top b os bits

-- The offsets begin at 0, end at the top, and don't rise over a null.
abbrev pub IsFlat : ℕ → List ℕ → List Bool → Type 0
IsFlat top [] bits = ⊥
IsFlat top (a ∷ os) bits = (a ≡ 0) × FlatFrom top a os bits

-- No slot comes twice.
abbrev pub NoneTwice : List Slot → Type 0
NoneTwice [] = ⊤
NoneTwice (x ∷ xs) = (is_among x xs ≡ false) × NoneTwice xs

-- After n different keys each valid key is one of these or the next one, and in the end all are named.
abbrev pub GrowsFrom : ℕ → ℕ → List ℕ → List Bool → Type 0
GrowsFrom top n [] bits = n ≡ top
GrowsFrom top n (k ∷ ks) [] = n ≡ top
GrowsFrom top n (k ∷ ks) (true ∷ bits) = (k ≤ n) × GrowsFrom top (max n (suc k)) ks bits
GrowsFrom top n (k ∷ ks) (false ∷ bits) = GrowsFrom top n ks bits

-- As many slots as positions, and the filling where the position isn't j.
abbrev pub FillElsewhere : Slot → ℕ → List ℕ → List Slot → Type 0
FillElsewhere d j [] [] = ⊤
FillElsewhere d j [] (x ∷ xs) = ⊥
FillElsewhere d j (i ∷ is) [] = ⊥
FillElsewhere d j (i ∷ is) (x ∷ xs) = (nat_eq i j ≡ false → x ≡ d) × FillElsewhere d j is xs

abbrev mutual
  pub Canonical : Layout → Type 0
  Canonical (nulls t n) = ⊤
  Canonical (booleans t m vs) = MaskIsNeeded m × (vs.lead ≡ 0) × AllUnset (λ b. b ≡ false) (mask_bits m (length vs.bits)) vs.bits
  Canonical (primitives t m vs) = MaskIsNeeded m × AllUnset (λ v. v ≡ zeros (primitive_by (form_of t))) (mask_bits m (length vs)) vs
  Canonical (binaries t m os bs) = MaskIsNeeded m × IsFlat (length bs) (map nat_of os) (mask_bits m (pred (length os)))
  Canonical (fixed_size_binaries t m k n bs) = MaskIsNeeded m × AllUnset (λ v. v ≡ replicate k 0) (mask_bits m n) (chunks k n bs)
  Canonical (views t m vs buffers) = MaskIsNeeded m × AllUnset (λ v. v ≡ zero_view) (mask_bits m (length vs)) vs × AreInOrder view_limit buffers vs
  Canonical (lists t m os l) = MaskIsNeeded m × IsFlat (length_of l) (map nat_of os) (mask_bits m (pred (length os))) × Canonical l
  Canonical (fixed_size_lists t m k n l) =
      MaskIsNeeded m × AllUnset (λ xs. xs ≡ replicate k (fill (type_of l))) (mask_bits m n) (chunks k n (denote l)) × Canonical l
  Canonical (structs t m n ls) = MaskIsNeeded m × AllUnset (λ r. r ≡ fills (fields_by (form_of t))) (mask_bits m n) (rows n ls) × AreCanonical ls
  Canonical (sparse_unions t o ts ls) = (o ≡ 0) × AreSelected 0 (positions t ts) ls
  Canonical (dense_unions t o ts os ls) = (map nat_of os ≡ counts_after [] (positions t ts)) × AreCounted 0 (positions t ts) ls
  Canonical (dictionaries t u m ks l) =
      MaskIsNeeded m × AllUnset (λ k. k ≡ pos 0) (mask_bits m (length ks)) ks × GrowsFrom (length_of l) 0 (map nat_of ks) (mask_bits m (length ks))
      × (list_all is_valid (denote l) ≡ true) × NoneTwice (denote l) × (value_by (form_of t) ≡ type_of l) × Canonical l

  pub AreCanonical : Layouts → Type 0
  AreCanonical no_layouts = ⊤
  AreCanonical (child l ls) = Canonical l × AreCanonical ls

  -- the children of a sparse union from field j on
  pub AreSelected : ℕ → List ℕ → Layouts → Type 0
  AreSelected j is no_layouts = ⊤
  AreSelected j is (child l ls) = FillElsewhere (fill (type_of l)) j is (denote l) × Canonical l × AreSelected (suc j) is ls

  -- the children of a dense union from field j on have a slot for each that selects them
  pub AreCounted : ℕ → List ℕ → Layouts → Type 0
  AreCounted j is no_layouts = ⊤
  AreCounted j is (child l ls) = (length_of l ≡ occurrences j is) × Canonical l × AreCounted (suc j) is ls
