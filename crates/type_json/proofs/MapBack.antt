-- A map of texts as members and back: entries whose keys ascend go in one behind another.
use Rattle.std.proofs.Common.{◌≡◌, ℕ, List, [], ◌∷◌, ◌++◌, refl, ap, sym, ◌∙◌, subst, Option, Some, None, option_map, append-nil, append_assoc, Less, Greater, nat_cmp}
use Rattle.std.proofs.lemmas.Cmp.{nat_list_cmp_total}
use Rattle.std.specs.Cmp.Lexicographic.{slice_cmp}
use Rattle.std.specs.List.{AllByRecursion}
use Rattle.std.specs.List.Sorted.{IsStrictlySortedBy}
use Rattle.std.specs.Map.{keys_of}
use Rattle.std.specs.Ordering.{match_ordering, ordering_reverse}
use Rattle.std.specs.BTreeMap.{insert_entry}
use Rattle.serde_json.specs.Data.{string, Members, no_members, member, put}
use Rattle.arrow_types.specs.TypeData.{Entries}
use Rattle.type_json.specs.TypeJson.{entries_in, with_entries, metadata_in, metadata_value, IsMap}

abbrev pub AreSorted : Entries → Type 0
AreSorted es = IsStrictlySortedBy (slice_cmp nat_cmp) (keys_of es)

-- the entries as members, in their order
abbrev pub members_from : Entries → Members
members_from [] = no_members
members_from (e ∷ es) = member e.0 (string e.1) (members_from es)

below_middle : (k : List ℕ) (done : Entries) (e : List ℕ × List ℕ) (more : Entries) → AllByRecursion (λ y. slice_cmp nat_cmp k y ≡ Less) (keys_of (done ++ e ∷ more)) → slice_cmp nat_cmp k e.0 ≡ Less
below_middle k [] e more h = h.0
below_middle k (x ∷ done) e more h = below_middle k done e more h.1

pub above : (k : List ℕ) (done : Entries) (e : List ℕ × List ℕ) (more : Entries) → AllByRecursion (λ y. slice_cmp nat_cmp k y ≡ Less) (keys_of (done ++ e ∷ more)) → slice_cmp nat_cmp e.0 k ≡ Greater
above k done e more h = nat_list_cmp_total.antisymm e.0 k ∙ ap ordering_reverse (below_middle k done e more h)

put_last : (done : Entries) (e : List ℕ × List ℕ) (more : Entries) → AreSorted (done ++ e ∷ more) → put e.0 (string e.1) (members_from done) ≡ members_from (done ++ e ∷ [])
unfolding IsStrictlySortedBy
put_last [] e more h = refl
put_last (x ∷ done) e more h =
    ap (λ o. match_ordering o (member e.0 (string e.1) (member x.0 (string x.1) (members_from done))) (member x.0 (string e.1) (members_from done)) (member x.0 (string x.1) (put e.0 (string e.1) (members_from done)))) (above x.0 done e more h.0)
    ∙ ap (member x.0 (string x.1)) (put_last done e more h.1)

insert_last : (done : Entries) (e : List ℕ × List ℕ) (more : Entries) → AreSorted (done ++ e ∷ more) → insert_entry (slice_cmp nat_cmp) done e.0 e.1 ≡ done ++ e ∷ []
unfolding IsStrictlySortedBy
insert_last [] e more h = refl
insert_last (x ∷ done) e more h =
    ap (λ o. match_ordering o ((e.0, e.1) ∷ x ∷ done) ((x.0, e.1) ∷ done) (x ∷ insert_entry (slice_cmp nat_cmp) done e.0 e.1)) (above x.0 done e more h.0)
    ∙ ap (λ l. x ∷ l) (insert_last done e more h.1)

pub with_entries_sorted : (done es : Entries) → AreSorted (done ++ es) → with_entries es (members_from done) ≡ members_from (done ++ es)
with_entries_sorted done [] h = ap members_from (sym (append-nil done))
with_entries_sorted done (e ∷ es) h =
    ap (with_entries es) (put_last done e es h)
    ∙ with_entries_sorted (done ++ e ∷ []) es (subst AreSorted (sym (append_assoc done (e ∷ []) es)) h)
    ∙ ap members_from (append_assoc done (e ∷ []) es)

pub entries_in_sorted : (done es : Entries) → AreSorted (done ++ es) → entries_in (members_from es) done ≡ Some (done ++ es)
entries_in_sorted done [] h = ap (λ l. Some l) (sym (append-nil done))
entries_in_sorted done (e ∷ es) h =
    ap (entries_in (members_from es)) (insert_last done e es h)
    ∙ entries_in_sorted (done ++ e ∷ []) es (subst AreSorted (sym (append_assoc done (e ∷ []) es)) h)
    ∙ ap (λ l. Some l) (append_assoc done (e ∷ []) es)

pub metadata_back : (m : Option Entries) → IsMap m → metadata_in (metadata_value m) ≡ Some m
metadata_back None h = refl
metadata_back (Some es) h =
    ap (λ ms. option_map (λ x. Some x) (entries_in ms [])) (with_entries_sorted [] es h) ∙ ap (option_map (λ x. Some x)) (entries_in_sorted [] es h)
