-- What the tests of two types have told.
use Rattle.std.proofs.Common.{◌≡◌, ◌↔◌, IsTrue, Bool, sym, ap, ◌∙◌}
use Rattle.std.specs.Bool.{one_answer}
use Rattle.arrow_types.specs.TypeEq.{type_eq, field_eq, fields_eq}
use Rattle.arrow_types.specs.Seen.{seen, seen_field, seen_union, seen_extension}
use Rattle.arrow_types.specs.TypeExact.{types_decide, fields_decide, field_lists_decide}
use Rattle.arrow_types.specs.Schema.{seen_schema}
use Rattle.arrow_types.proofs.Back.{seen_one, seen_field-one, seen_fields-one, seen_union-one, seen_extension-one}
use Rattle.arrow_types.specs.declared.datatype.ArrowDataType.{ArrowDataType}
use Rattle.arrow_types.specs.declared.datatype.ExtensionType.{ExtensionType}
use Rattle.arrow_types.specs.declared.datatype.Field.{Field}
use Rattle.arrow_types.specs.declared.schema.ArrowSchema.{ArrowSchema}
use Rattle.arrow_types.specs.declared.datatype.UnionType.{UnionType, out-UnionType, roll-UnionType, roll-out-UnionType}

pub types_told : (a b : ArrowDataType) (r : Bool) → IsTrue r ↔ (a ≡ b) → r ≡ type_eq (seen a) (seen b)
types_told a b r h = one_answer r (type_eq (seen a) (seen b)) h (λ e. seen_one a b ((types_decide (seen a) (seen b)).0 e), λ e. (types_decide (seen a) (seen b)).1 (ap seen e))

pub fields_told : (a b : Field) (r : Bool) → IsTrue r ↔ (a ≡ b) → r ≡ field_eq (seen_field a) (seen_field b)
fields_told a b r h = one_answer r (field_eq (seen_field a) (seen_field b)) h (λ e. seen_field-one a b ((fields_decide (seen_field a) (seen_field b)).0 e), λ e. (fields_decide (seen_field a) (seen_field b)).1 (ap seen_field e))

pub unions_told : (a b : UnionType) (r : Bool) → IsTrue r ↔ (a ≡ b) → r ≡ type_eq (seen_union a) (seen_union b)
unions_told a b r h = one_answer r (type_eq (seen_union a) (seen_union b)) h (λ e. seen_union-one a b ((types_decide (seen_union a) (seen_union b)).0 e), λ e. (types_decide (seen_union a) (seen_union b)).1 (ap seen_union e))

pub extensions_told : (a b : ExtensionType) (r : Bool) → IsTrue r ↔ (a ≡ b) → r ≡ type_eq (seen_extension a) (seen_extension b)
extensions_told a b r h = one_answer r (type_eq (seen_extension a) (seen_extension b)) h (λ e. seen_extension-one a b ((types_decide (seen_extension a) (seen_extension b)).0 e), λ e. (types_decide (seen_extension a) (seen_extension b)).1 (ap seen_extension e))

seen_schema-one : (a b : ArrowSchema) → seen_schema a ≡ seen_schema b → a ≡ b
seen_schema-one a b e = λ i. record { fields = seen_fields-one a.fields b.fields e i }

pub schemas_told : (a b : ArrowSchema) (r : Bool) → IsTrue r ↔ (a ≡ b) → r ≡ fields_eq (seen_schema a) (seen_schema b)
schemas_told a b r h = one_answer r (fields_eq (seen_schema a) (seen_schema b)) h (λ e. seen_schema-one a b ((field_lists_decide (seen_schema a) (seen_schema b)).0 e), λ e. (field_lists_decide (seen_schema a) (seen_schema b)).1 (ap seen_schema e))

-- what `==` of two types has told, for those who call it
pub types_equal : (a b : ArrowDataType) (r : Bool) → r ≡ type_eq (seen a) (seen b) → IsTrue r ↔ (a ≡ b)
types_equal a b r e = (λ t. seen_one a b ((types_decide (seen a) (seen b)).0 (sym e ∙ t)), λ p. e ∙ (types_decide (seen a) (seen b)).1 (ap seen p))

pub unions_one : (a b : UnionType) → (out-UnionType a).fields ≡ (out-UnionType b).fields → (out-UnionType a).ids ≡ (out-UnionType b).ids → (out-UnionType a).mode ≡ (out-UnionType b).mode → a ≡ b
unions_one a b p q r = sym (roll-out-UnionType a) ∙ (λ i. roll-UnionType record { fields = p i; ids = q i; mode = r i }) ∙ roll-out-UnionType b
