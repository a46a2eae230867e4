-- The slots that a plan takes.
use Rattle.std.specs.Prelude.{List, [], ◌∷◌, replicate, take, drop, get_or, flat_map}
use Rattle.arrow_types.specs.TypeData.{TypeData}
use Rattle.arrow_types.specs.TypeData as T
use Rattle.arrow_flat.specs.Slots.{Slot}
use Rattle.arrow_layout.specs.Denote.{denote}
use Rattle.arrow_layout.specs.Layouts.{Layout, nulls, type_of}
use Rattle.arrow_layout.specs.SlotsOf.{fill}
use Rattle.arrow_gather.specs.declared.piece.Piece.{Piece}
use Rattle.arrow_gather.specs.declared.piece.Piece.TheVariants.{Copy, Nulls}

-- The type of what is taken is that of the first array.
abbrev pub plan_type : List Layout → TypeData
plan_type [] = T.null
plan_type (l ∷ ls) = type_of l

-- The slots that a piece takes.
abbrev pub piece_slots : List Layout → Piece → List Slot
piece_slots ls (Copy index start len copies) =
    flat_map (λ slots. slots) (replicate copies (take len (drop start (denote (get_or ls index (nulls T.null 0))))))
piece_slots ls (Nulls n) = replicate n (fill (plan_type ls))

-- The slots that a plan takes of these arrays, in the plan's order.
abbrev pub taken : List Layout → List Piece → List Slot
taken ls plan = flat_map (piece_slots ls) plan
