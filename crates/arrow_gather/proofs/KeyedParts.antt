-- The parts of a dictionary, from the keys of its slots.
use Rattle.std.proofs.Common.{◌≡◌, ℕ, Bool, cond, List, length, map, Option, Some, None, ap, sym, ◌∙◌, subst}
use Rattle.std.specs.Prelude.{ℤ, pos}
use Rattle.arrow_types.specs.TypeData.{TypeData}
use Rattle.arrow_buffers.specs.Bits.{Bits, needed_mask, plain}
use Rattle.arrow_flat.specs.Slots.{Slot, is_valid, null}
use Rattle.arrow_layout.specs.Canon.{distinct, key_in, mask_of}
use Rattle.arrow_layout.specs.Denote.{denote, validity_of}
use Rattle.arrow_layout.specs.Layouts.{Layout, dictionaries, length_of}
use Rattle.arrow_layout.specs.WellFormed.{WellFormed}
use Rattle.arrow_meaning.specs.Nodes.{AreKeysBelow, key_layout, key_numbers}
use Rattle.arrow_meaning.specs.declared.keys.KeyNode.{KeyNode}
use Rattle.arrow_canon.specs.Picks.{picks, ArePlaces}
use Rattle.arrow_canon.specs.Runs.{places, AreWithin}
use Rattle.arrow_canon.specs.declared.run.Run.{Run}
use Rattle.arrow_canon.proofs.MaskedSlots.{all_valid}
use Rattle.arrow_canon.proofs.Places.{places_within}
use Rattle.arrow_gather.specs.Distincts.{picked_values, value_places}
use Rattle.arrow_gather.specs.Met.{AreKeyed}
use Rattle.arrow_gather.specs.declared.dictionary.DictionaryParts.{DictionaryParts}
use Rattle.arrow_gather.specs.declared.distinct_values.KeyedSlots.{KeyedSlots}
use Rattle.arrow_gather.proofs.KeyPlaces.{key_count, key_mask, places_there, values_picked}
use Rattle.arrow_gather.proofs.Seen.{keys_in}

-- the places that runs of a dictionary's slots take
module _ (n : KeyNode) (l : Layout) (rs : List Run) (w : WellFormed (key_layout n)) (within : AreWithin (length_of (key_layout n)) rs) where
  abbrev ks : Layout
  ks = key_layout n

  slots_there : ArePlaces (length (key_numbers ks)) (places rs)
  slots_there = subst (λ k. ArePlaces k (places rs)) (sym (key_count n)) (places_within (length_of ks) rs within)

  pub positions_there : AreKeysBelow (length_of l) (validity_of ks) ks → (ps : List (Option ℕ)) → ps ≡ value_places ks (places rs) → ArePlaces (length_of l) ps
  positions_there named ps e = subst (ArePlaces (length_of l)) (sym e) (places_there ks (length_of l) (key_mask n w) named (places rs) slots_there)

  pub keyed_there : (b : KeyedSlots) (ps : List (Option ℕ)) → ps ≡ value_places ks (places rs) → AreKeyed l (picks null (denote l) ps) b → AreKeyed l (picked_values ks l (places rs)) b
  keyed_there b ps e h = subst (λ s. AreKeyed l s b) (ap (picks null (denote l)) e ∙ sym (values_picked ks l (key_mask n w) (places rs) slots_there)) h

mask_is : (s : List Slot) → needed_mask (plain (map is_valid s)) ≡ mask_of s
mask_is s = let by_all : Bool → Option Bits = λ all. cond all None (Some (plain (map is_valid s))) in sym (ap by_all (all_valid s))

module _ (l : Layout) (s : List Slot) (b : KeyedSlots) (p : DictionaryParts) (h : AreKeyed l s b) where
  pub parts_within : p.firsts ≡ b.values.firsts → AreWithin (length_of l) p.firsts.items
  parts_within e = subst (λ v. AreWithin (length_of l) v.items) (sym e) h.values.within

  pub parts_firsts : p.firsts ≡ b.values.firsts → (filling : Slot) → picks filling (denote l) (places p.firsts.items) ≡ distinct s
  parts_firsts e filling = ap (λ v. picks filling (denote l) (places v.items)) e ∙ h.values.values filling

  pub parts_keys : p.keys ≡ b.keys → map pos p.keys.items ≡ map (key_in (distinct s)) s
  parts_keys e = ap (λ v. map pos v.items) e ∙ ap (map pos) h.keys ∙ keys_in (distinct s) s

  pub parts_mask : p.validity ≡ needed_mask (plain b.validity) → p.validity ≡ mask_of s
  parts_mask e = e ∙ ap (λ bits. needed_mask (plain bits)) h.bits ∙ mask_is s

-- dictionaries of equal parts are equal
pub same_parts : (t t' u u' : TypeData) (m m' : Option Bits) (ks ks' : List ℤ) (l : Layout) → t ≡ t' → u ≡ u' → m ≡ m' → ks ≡ ks' → dictionaries t u m ks l ≡ dictionaries t' u' m' ks' l
same_parts t t' u u' m m' ks ks' l e f g h = cc
