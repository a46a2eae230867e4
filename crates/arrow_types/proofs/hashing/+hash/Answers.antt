use Rattle.std.proofs.Common.{ℕ, List, ◌++◌, drop, ◌∙◌}
use Rattle.std.proofs.lemmas.Bool.{false≢true}
use Rattle.std.proofs.lemmas.List.{drop_all}
use Rattle.std.specs.Hash.{u8, usize, bool}
use Rattle.arrow_types.specs.Seen.{seen, seen_field, seen_fields, seen_union, seen_extension}
use Rattle.arrow_types.specs.SeenAt as at
use Rattle.arrow_types.specs.TypeEq.{integer_number}
use Rattle.arrow_types.specs.TypeWrites.{parts_writes, field_writes, fields_writes, type_writes}
use Rattle.arrow_types.proofs.AtVariant.{at_variant}
use Rattle.arrow_types.proofs.Hashed.{number_taken, both_taken, borrow_taken, parts_taken, list_parts}
use Rattle.arrow_types.proofs.Lists.{hashed}
use Rattle.arrow_types.proofs.Others.{nested_other}
use Rattle.arrow_types.specs.declared.datatype.ArrowDataType.{ArrowDataType}
use Rattle.arrow_types.specs.declared.datatype.Field.{Field}
use Rattle.arrow_types.proofs.hashing.+hash.Goals as goal

abbrev field_of : Field → List (List ℕ)
field_of f = field_writes (seen_field f)

pub hash_nested-returns-in-List : goal.hash_nested-returns-in-List
hash_nested-returns-in-List g t c =
    let write = g.H.Hasher.write in
    let start = c.args.state.now in
    let field = c.in-List.field in
    λ _. parts_taken write start c.args.t.now (list_parts c.args.t.now field c.in-List.is) (borrow_taken write start field_of _ field c.get-in-List.ensures c.hash_field-in-List.ensures)

pub hash_nested-returns-in-FixedSizeList : goal.hash_nested-returns-in-FixedSizeList
hash_nested-returns-in-FixedSizeList g t c =
    let write = g.H.Hasher.write in
    let start = c.args.state.now in
    let field = c.in-FixedSizeList.field in
    let size = c.in-FixedSizeList.size in
    λ _. parts_taken write start c.args.t.now (at_variant parts_writes (at.seen-FixedSizeList field size) c.in-FixedSizeList.is) (both_taken write start (field_of field) (usize size) (borrow_taken write start field_of _ field c.get.ensures c.hash_field.ensures) c.hash.ensures)

pub hash_nested-returns-in-Struct : goal.hash_nested-returns-in-Struct
hash_nested-returns-in-Struct g t c =
    let write = g.H.Hasher.write in
    let start = c.args.state.now in
    let fields = c.in-Struct.fields in
    λ _. parts_taken write start c.args.t.now (at_variant parts_writes (at.seen-Struct fields) c.in-Struct.is) (borrow_taken write start (λ fs. fields_writes (seen_fields fs)) _ fields c.as_slice.ensures c.hash_fields.ensures)

pub hash_nested-returns-in-Map : goal.hash_nested-returns-in-Map
hash_nested-returns-in-Map g t c =
    let write = g.H.Hasher.write in
    let start = c.args.state.now in
    let field = c.in-Map.field in
    let is_sorted = c.in-Map.is_sorted in
    λ _. parts_taken write start c.args.t.now (at_variant parts_writes (at.seen-Map field is_sorted) c.in-Map.is) (both_taken write start (field_of field) (bool is_sorted) (borrow_taken write start field_of _ field c.get-in-Map.ensures c.hash_field-in-Map.ensures) c.hash-in-Map.ensures)

pub hash_nested-returns-in-Union : goal.hash_nested-returns-in-Union
hash_nested-returns-in-Union g t c =
    let write = g.H.Hasher.write in
    let start = c.args.state.now in
    let union = c.in-Union.union in
    λ _. parts_taken write start c.args.t.now (at_variant parts_writes (at.seen-Union union) c.in-Union.is) (borrow_taken write start (λ u. parts_writes (seen_union u)) _ union c.get-in-Union.ensures c.hash_union.ensures)

pub hash_nested-returns-in-Dictionary : goal.hash_nested-returns-in-Dictionary
hash_nested-returns-in-Dictionary g t c =
    let write = g.H.Hasher.write in
    let start = c.args.state.now in
    let key = c.in-Dictionary.key in
    let values = c.in-Dictionary.values in
    let is_ordered = c.in-Dictionary.is_ordered in
    let of_values = λ (v : ArrowDataType). type_writes (seen v) in
    λ _. parts_taken write start c.args.t.now (at_variant parts_writes (at.seen-Dictionary key values is_ordered) c.in-Dictionary.is) (both_taken write start (u8 (integer_number key)) (of_values values ++ bool is_ordered) (number_taken write start c.integer_number.result _ c.write_u8.ensures c.integer_number.ensures) (both_taken write c.write_u8.new.self (of_values values) (bool is_ordered) (borrow_taken write c.write_u8.new.self of_values _ values c.get-in-Dictionary.ensures c.hash_type.ensures) c.hash-in-Dictionary.ensures))

pub hash_nested-returns-in-Extension : goal.hash_nested-returns-in-Extension
hash_nested-returns-in-Extension g t c =
    let write = g.H.Hasher.write in
    let start = c.args.state.now in
    let extension = c.in-Extension.extension in
    λ _. parts_taken write start c.args.t.now (at_variant parts_writes (at.seen-Extension extension) c.in-Extension.is) (borrow_taken write start (λ e. parts_writes (seen_extension e)) _ extension c.get-in-Extension.ensures c.hash_extension.ensures)

pub hash_nested-returns-in_default : goal.hash_nested-returns-in_default
hash_nested-returns-in_default g t c =
    let d = c.in_default in
    λ n. absurd (false≢true (nested_other c.args.t.now d.not-List d.not-LargeList d.not-FixedSizeList d.not-Struct d.not-Map d.not-Union d.not-Dictionary d.not-Extension ∙ n))

pub hash_fields-returns : goal.hash_fields-returns
hash_fields-returns g t c =
    let fs = c.args.fields.now in
    let i = c.loop-field.field-index in
    hashed g.H.Hasher.write fs (drop i fs) _ _ _ (drop_all i fs c.loop-field-test.false) c.loop-field.invariant c.write_usize.ensures
