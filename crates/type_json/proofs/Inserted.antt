-- Entries whose keys ascend still do after one goes in, and texts stay texts.
use Rattle.std.proofs.Common.{◌≡◌, ℕ, List, [], ◌∷◌, ap, sym, ◌∙◌, subst, Ordering, Less, Equal, Greater, nat_cmp, refl}
use Rattle.std.specs.Prelude.{IsUtf8}
use Rattle.std.proofs.lemmas.Cmp.{nat_list_cmp_total}
use Rattle.std.specs.Cmp.Lexicographic.{slice_cmp}
use Rattle.std.specs.List.{AllByRecursion}
use Rattle.std.specs.List.Sorted.{IsStrictlySortedBy}
use Rattle.std.specs.Map.{keys_of}
use Rattle.std.specs.Ordering.{match_ordering, ordering_reverse}
use Rattle.std.specs.BTreeMap.{insert_entry}
use Rattle.arrow_types.specs.TypeData.{Entries}
use Rattle.type_json.specs.TypeJson.{AreTextEntries}
use Rattle.type_json.proofs.MapBack.{AreSorted}

abbrev compare : List ℕ → List ℕ → Ordering
compare = slice_cmp nat_cmp

abbrev placed : Ordering → List ℕ → List ℕ → List ℕ × List ℕ → Entries → Entries → Entries
placed o k v e es rest = match_ordering o ((k, v) ∷ e ∷ es) ((e.0, v) ∷ es) (e ∷ rest)

abbrev HaveKeys : (List ℕ → Type 0) → Entries → Type 0
HaveKeys P es = AllByRecursion P (keys_of es)

module _ (k v : List ℕ) where
  keys_at : (P : List ℕ → Type 0) (o : Ordering) (e : List ℕ × List ℕ) (es rest : Entries) → P k → HaveKeys P (e ∷ es) → HaveKeys P rest → HaveKeys P (placed o k v e es rest)
  keys_at P Less e es rest p h r = (p, h)
  keys_at P Equal e es rest p h r = h
  keys_at P Greater e es rest p h r = (h.0, r)

  keys_have : (P : List ℕ → Type 0) (es : Entries) → P k → HaveKeys P es → HaveKeys P (insert_entry compare es k v)
  keys_have P [] p h = (p, tt)
  keys_have P (e ∷ es) p h = keys_at P (compare k e.0) e es (insert_entry compare es k v) p h (keys_have P es p h.1)

  below_all : (e : List ℕ) (es : Entries) → compare k e ≡ Less → HaveKeys (λ y. compare e y ≡ Less) es → HaveKeys (λ y. compare k y ≡ Less) es
  below_all e [] less h = tt
  below_all e (x ∷ es) less h = (nat_list_cmp_total.trans k e x.0 less h.0, below_all e es less h.1)

  sorted_at : (o : Ordering) (e : List ℕ × List ℕ) (es : Entries) → compare k e.0 ≡ o → AreSorted (e ∷ es) → AreSorted (insert_entry compare es k v)
      → AreSorted (placed o k v e es (insert_entry compare es k v))
  unfolding IsStrictlySortedBy
  sorted_at Less e es is h r = ((is, below_all e.0 es is h.0), h)
  sorted_at Equal e es is h r = h
  sorted_at Greater e es is h r =
      let less : compare e.0 k ≡ Less = nat_list_cmp_total.antisymm e.0 k ∙ ap ordering_reverse is in
      (keys_have (λ y. compare e.0 y ≡ Less) es less h.0, r)

  pub insert_sorted : (es : Entries) → AreSorted es → AreSorted (insert_entry compare es k v)
  unfolding IsStrictlySortedBy
  insert_sorted [] h = (tt, tt)
  insert_sorted (e ∷ es) h = sorted_at (compare k e.0) e es refl h (insert_sorted es h.1)

  texts_at : (o : Ordering) (e : List ℕ × List ℕ) (es rest : Entries) → IsUtf8 k → IsUtf8 v → AreTextEntries (e ∷ es) → AreTextEntries rest → AreTextEntries (placed o k v e es rest)
  texts_at Less e es rest hk hv h r = ((hk, hv), h)
  texts_at Equal e es rest hk hv h r = ((h.0.0, hv), h.1)
  texts_at Greater e es rest hk hv h r = (h.0, r)

  pub insert_texts : (es : Entries) → IsUtf8 k → IsUtf8 v → AreTextEntries es → AreTextEntries (insert_entry compare es k v)
  insert_texts [] hk hv h = ((hk, hv), tt)
  insert_texts (e ∷ es) hk hv h = texts_at (compare k e.0) e es (insert_entry compare es k v) hk hv h (insert_texts es hk hv h.1)
