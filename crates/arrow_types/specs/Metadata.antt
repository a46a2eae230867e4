-- What the contracts say of a field's metadata.
use Rattle.std.specs.Prelude.{ℕ, Bool, false, List, [], ◌∷◌, Option, Some, None, option_map, is_some, bytes_eq, codes}
use Rattle.std.specs.Map.{lookup}
use Rattle.arrow_types.specs.TypeData.{Entries}
use Rattle.arrow_types.specs.declared.datatype.Field.{Field}

-- the value under a key
abbrev pub value_at : List ℕ → Entries → Option (List ℕ)
value_at key entries = lookup (λ k. bytes_eq k key) entries

abbrev pub has_key : List ℕ → Option Entries → Bool
has_key key None = false
has_key key (Some entries) = is_some (value_at key entries)

-- the name and the metadata of an extension, where a name is noted
abbrev pub extension_of : Entries → Option (List ℕ × Option (List ℕ))
extension_of entries = option_map (λ name. (name, value_at (codes "ARROW:extension:metadata") entries)) (value_at (codes "ARROW:extension:name") entries)

-- the field with these entries, unchanged where there is none
abbrev pub with_metadata : Field → Entries → Field
with_metadata f [] = f
with_metadata f (e ∷ es) = record { name = f.name; dtype = f.dtype; is_nullable = f.is_nullable; metadata = Some (e ∷ es) }
