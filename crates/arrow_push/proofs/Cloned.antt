-- A builder of equal parts is equal, whatever proves that its parts fit.
use Rattle.std.proofs.Common.{◌≡◌, Bool, List, length, ap₂, sym, subst, Option}
use Rattle.std.proofs.Props.{props}
use Rattle.arrow_flat.specs.SlotCode.{slot_code}
use Rattle.arrow_flat.specs.declared.building.Building as building
use Rattle.arrow_push.specs.Masks.{with_nulls, count_or, all_filled}
use Rattle.arrow_push.specs.declared.masked.MaskedBuilder.{MaskedBuilder}
use Rattle.arrow_push.specs.declared.values.ValuesBuilder as builder
use Rattle.arrow_push.specs.declared.values.ValuesLaws as laws

module _ {V X : Type 0} {G : builder.Ghosts V X} {L : laws.Ghosts V} {B : building.Ghosts V} (b : MaskedBuilder V X G L B) where
  abbrev Fits : V → Option (List Bool) → Type 0
  Fits v m = count_or m (length (B.seen v).slots) ≡ length (B.seen v).slots

  abbrev Bare : V → Option (List Bool) → Type 0
  Bare v m = all_filled (L.blank (B.seen v).dtype) (with_nulls m (B.seen v).slots) ≡ (B.seen v).slots

  fits_prop : (v : V) (m : Option (List Bool)) → IsProp (Fits v m)
  fits_prop v m = Prim.hlevel props

  bare_prop : (v : V) (m : Option (List Bool)) → IsProp (Bare v m)
  bare_prop v m = Prim.hlevel (props, slot_code)

  abbrev made : (v : V) (m : Option (List Bool)) → Fits v m → Bare v m → MaskedBuilder V X G L B
  made v m f h = record { values = v; validity = m; fits = f; bare = h }

  same_facts : (f : Fits b.values b.validity) (h : Bare b.values b.validity) → made b.values b.validity f h ≡ b
  same_facts f h = ap₂ (made b.values b.validity) (fits_prop b.values b.validity f b.fits) (bare_prop b.values b.validity h b.bare)

  same_mask : (m : Option (List Bool)) → m ≡ b.validity → (f : Fits b.values m) (h : Bare b.values m) → made b.values m f h ≡ b
  same_mask m k = subst (λ n. (f : Fits b.values n) (h : Bare b.values n) → made b.values n f h ≡ b) (sym k) same_facts

  pub same_builder : (v : V) (m : Option (List Bool)) (f : Fits v m) (h : Bare v m) → v ≡ b.values → m ≡ b.validity → made v m f h ≡ b
  same_builder v m f h e k =
      subst (λ w. (f : Fits w m) (h : Bare w m) → made w m f h ≡ b) (sym e) (same_mask m k) f h
