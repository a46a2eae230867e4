-- What the bytes of a job are, and why bytes are no job.
use Rattle.std.specs.Prelude.{ℕ, zero, suc, ◌≡◌, ◌<◌, ◌≤◌, List, [], ◌∷◌, length, map, if◌then◌else◌, Option, Some, None, option_map}
use Rattle.std.specs.List.{AllByRecursion}
use Rattle.std.specs.Str.{is_utf8}
use Rattle.serde_json.specs.Data.{Data}
use Rattle.serde_json.specs.Read.{read}
use Rattle.arrow_types.specs.Depth.{depth_of}
use Rattle.arrow_types.specs.TypeData.{TypeData}
use Rattle.arrow_flat.specs.Slots.{Slot}
use Rattle.arrow_layout.specs.Canon.{canon}
use Rattle.arrow_layout.specs.Canonical.{Canonical}
use Rattle.arrow_layout.specs.Fits.{Fits}
use Rattle.arrow_layout.specs.Layouts.{Layout, length_of, type_of}
use Rattle.arrow_gather.specs.Plans.{plan_type, taken}
use Rattle.arrow_gather.specs.declared.piece.Piece.{Piece}
use Rattle.arrow_gather.specs.declared.piece.Piece.TheVariants.{Copy}
use Rattle.type_json.specs.TypeJson.{IsType}
use Rattle.column_grammar.specs.Reads.{Column, column_of, selected_layout, IsValidColumn}
use Rattle.column_grammar.specs.Writes.{column_text}
use Rattle.jobs.specs.declared.command.Command.{Command}
use Rattle.jobs.specs.declared.command.Command.TheVariants.{Canon, Check}

-- the most bytes that a job may have
abbrev pub limit : ℕ
limit = 16777216

-- how deep a type may be
abbrev pub deepest : ℕ
deepest = 32

-- the JSON value that the bytes are, where they are UTF-8 and nest no deeper than 127
unfoldable pub reading : List ℕ → Option Data
reading bytes = if is_utf8 bytes then read bytes else None

-- the bytes are no more than a job may have, and are this value
pub record IsRead (bytes : List ℕ) (value : Data) : Type 0 where
  pub short : length bytes ≤ limit
  pub is_read : reading bytes ≡ Some value

-- ---- jobs

-- The columns of a job, and the plan that takes slots of them.
pub record Job : Type 0 where
  pub columns : List Column
  pub plan : List Piece

-- One column, which is taken whole.
abbrev pub whole_of : Column → Job
whole_of c = record { columns = c ∷ []; plan = Copy 0 0 (length_of (selected_layout c)) 1 ∷ [] }

-- The job of a command that a value is, where it is in the command's grammar.
abbrev pub job_of : Command → Data → Option Job
job_of command value = option_map whole_of (column_of value)

-- The layouts over which the plan goes: of each column that of the slots that it selects.
abbrev pub arrays_of : Job → List Layout
arrays_of j = map selected_layout j.columns

-- the type of what a job takes
abbrev pub job_type : Job → TypeData
job_type j = plan_type (arrays_of j)

-- the slots that a job takes
abbrev pub job_slots : Job → List Slot
job_slots j = taken (arrays_of j) j.plan

-- the canonical layout of the slots that a job takes
abbrev pub canon_of : Job → Layout
canon_of j = canon (job_type j) (job_slots j)

-- the column's type is no deeper than a job's may be
abbrev pub IsShallow : Column → Type 0
IsShallow c = depth_of (type_of c.layout) ≤ deepest

-- The column's type is one: names and texts are UTF-8, the keys of metadata ascend, and ids have 32 bits.
abbrev pub HasType : Column → Type 0
HasType c = IsType (type_of c.layout)

-- the bytes are this job of the command's grammar, its types not too deep
pub record IsInGrammar (command : Command) (bytes : List ℕ) (j : Job) : Type 0 where
  pub value : Data
  pub read_as : IsRead bytes value
  pub is_job : job_of command value ≡ Some j
  pub shallow : AllByRecursion IsShallow j.columns

-- the bytes are this one whole job of the command
pub record IsJob (command : Command) (bytes : List ℕ) (j : Job) : Type 0 where
  pub in_grammar : IsInGrammar command bytes j
  pub are_types : AllByRecursion HasType j.columns
  pub sound : AllByRecursion IsValidColumn j.columns

-- ---- what bytes are

-- The column at i is the first that isn't well formed, or whose slice passes its length.
abbrev pub IsFirstBad : ℕ → List Column → Type 0
IsFirstBad i [] = ⊥
IsFirstBad zero (c ∷ cs) = IsValidColumn c → ⊥
IsFirstBad (suc i) (c ∷ cs) = IsValidColumn c × IsFirstBad i cs

-- A job with an answer, or bytes without one for one of these causes.
pub data Verdict : Type 0 where
  too_long : Verdict
  bad_text : Verdict
  bad_job : Verdict
  too_deep : Verdict
  bad_layout : ℕ → Verdict
  -- a job whose column isn't canonical, where a canonical one is asked for
  not_canonical : Verdict
  -- a job whose canonical layout has a count or an offset out of its range
  overflows : Verdict
  answered : Verdict

-- The command has an answer to a job.
abbrev pub HasAnswer : Command → Job → Type 0
HasAnswer Canon j = Fits (canon_of j)
HasAnswer Check j = AllByRecursion Canonical (arrays_of j)

-- What is written for a job that has an answer.
abbrev pub answer_text : Command → Job → List ℕ
answer_text Canon j = column_text (canon_of j)
answer_text Check j = []

-- The verdict of a command on a job.
abbrev pub IsOfJob : Verdict → Command → Job → Type 0
IsOfJob overflows Canon j = HasAnswer Canon j → ⊥
IsOfJob not_canonical Check j = HasAnswer Check j → ⊥
IsOfJob answered command j = HasAnswer command j
IsOfJob _ command j = ⊥

-- The verdict of a command on bytes.
abbrev pub IsOf : Command → Verdict → List ℕ → Type 0
IsOf command too_long bytes = limit < length bytes
-- no text of a JSON value
IsOf command bad_text bytes = (length bytes ≤ limit) × (reading bytes ≡ None)
-- a value, but no job of the grammar
IsOf command bad_job bytes = (v : Data) × IsRead bytes v × (job_of command v ≡ None)
-- a job of the grammar with a type that is deeper
IsOf command too_deep bytes = (v : Data) × (j : Job) × IsRead bytes v × (job_of command v ≡ Some j) × (AllByRecursion IsShallow j.columns → ⊥)
-- a job of the grammar, of types that aren't deeper, with a column that isn't well formed or whose slice passes its length
IsOf command (bad_layout i) bytes = (j : Job) × IsInGrammar command bytes j × IsFirstBad i j.columns
IsOf command verdict bytes = (j : Job) × IsJob command bytes j × IsOfJob verdict command j
