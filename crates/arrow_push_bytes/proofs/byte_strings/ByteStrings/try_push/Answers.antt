use Rattle.std.proofs.Common.{◌≡◌, ◌+◌, ◌<◌, ◌≤◌, [], ◌∷◌, ◌++◌, map, length, ap, subst, refl, arith, inl}
use Rattle.std.specs.Prelude.{◌⊎◌}
use Rattle.arrow_types.specs.declared.error.PolarsError.TheVariants.{ComputeError, OutOfMemory}
use Rattle.arrow_types.specs.declared.error.Reason.TheVariants.{LengthOverflow}
use Rattle.arrow_buffers.specs.Offsets.{end_of}
use Rattle.arrow_views.specs.ViewBytes.{bytes_from}
use Rattle.arrow_push_bytes.specs.Strings.{AreStrings}
use Rattle.arrow_push_bytes.proofs.Strings.{own_strings, pieces_are, same_strings, strings_push, strings_end, strings_back}
use Rattle.arrow_push_bytes.proofs.byte_strings.ByteStrings.try_push.Goals as goal

pub returns-in-Err : goal.returns-in-Err
returns-in-Err g c =
    let number = g.O.Offset.number in
    let os = map number c.self.inside.offsets in
    let bs = c.self.inside.bytes.items in
    let s = subst (AreStrings os bs) c.self.view_is c.self.invariant in (
      pieces_are (map number c.try_push.new.self) bs c.args.self.now
          (same_strings os (map number c.try_push.new.self) bs bs c.args.self.now s (ap (map number) c.in-Err.ensures.err) refl),
      subst (λ n. (c.growth_refusal.result ≡ OutOfMemory) ⊎ ((c.growth_refusal.result ≡ ComputeError LengthOverflow) × (g.O.Offset.limit ≤ n + length c.args.value.now)))
          (strings_end os bs c.args.self.now s) (c.growth_refusal.ensures g.O.Offset.limit (end_of os + length c.args.value.now) c.in-Err.ensures.refused),
    )

pub invariant_of-self-in-Err-extend_from_slice : goal.invariant_of-self-in-Err-extend_from_slice
invariant_of-self-in-Err-extend_from_slice g c =
    let number = g.O.Offset.number in
    let os = c.self.inside.offsets in
    let bs = c.self.inside.bytes.items in
    let s = subst (AreStrings (map number os) bs) c.self.view_is c.self.invariant in
    own_strings (map number c.truncate.new.self) c.extend_from_slice.new.self.items c.args.self.now
    (strings_back number os c.try_push.new.self c.truncate.new.self bs c.extend_from_slice.new.self.items c.args.self.now _ c.len_proxy-before.result s
    c.in_default.ensures.ok c.len_proxy-before.ensures.slots c.truncate.ensures c.in-Err-extend_from_slice.ensures.items)

pub returns-in-Err-extend_from_slice : goal.returns-in-Err-extend_from_slice
returns-in-Err-extend_from_slice g c =
    let number = g.O.Offset.number in
    let os = c.self.inside.offsets in
    let bs = c.self.inside.bytes.items in
    let s = subst (AreStrings (map number os) bs) c.self.view_is c.self.invariant in (
      pieces_are (map number c.truncate.new.self) c.extend_from_slice.new.self.items c.args.self.now
          (strings_back number os c.try_push.new.self c.truncate.new.self bs c.extend_from_slice.new.self.items c.args.self.now _ c.len_proxy-before.result s
          c.in_default.ensures.ok c.len_proxy-before.ensures.slots c.truncate.ensures c.in-Err-extend_from_slice.ensures.items),
      inl c.into.ensures,
    )

pub invariant_of-self-in_default-extend_from_slice : goal.invariant_of-self-in_default-extend_from_slice
invariant_of-self-in_default-extend_from_slice g c =
    let number = g.O.Offset.number in
    let os = map number c.self.inside.offsets in
    let bs = c.self.inside.bytes.items in
    let s = subst (AreStrings os bs) c.self.view_is c.self.invariant in
    own_strings (map number c.try_push.new.self) c.extend_from_slice.new.self.items (c.args.self.now ++ c.args.value.now ∷ [])
    (strings_push os bs c.args.self.now s (map number c.try_push.new.self) c.extend_from_slice.new.self.items c.args.value.now (bytes_from c.args.value.now (λ i l. omega (arith, c.type_inv.value i)))
    c.in_default.ensures.ok c.in_default-extend_from_slice.ensures.items)

pub returns : goal.returns
returns g c =
    let number = g.O.Offset.number in
    let os = map number c.self.inside.offsets in
    let bs = c.self.inside.bytes.items in
    let s = subst (AreStrings os bs) c.self.view_is c.self.invariant in (
      pieces_are (map number c.try_push.new.self) c.extend_from_slice.new.self.items (c.args.self.now ++ c.args.value.now ∷ [])
          (strings_push os bs c.args.self.now s (map number c.try_push.new.self) c.extend_from_slice.new.self.items c.args.value.now (bytes_from c.args.value.now (λ i l. omega (arith, c.type_inv.value i)))
          c.in_default.ensures.ok c.in_default-extend_from_slice.ensures.items),
      subst (λ n. n + length c.args.value.now < g.O.Offset.limit) (strings_end os bs c.args.self.now s) c.in_default.ensures.fits,
    )
