-- Layouts of values.
use Rattle.std.specs.Prelude.{⊤}
use Rattle.arrow_layout.specs.Layouts.{Layout, booleans, primitives, binaries, fixed_size_binaries, views}

-- Neither a null array nor one with children.
abbrev pub IsOfValues : Layout → Type 0
IsOfValues (booleans t m vs) = ⊤
IsOfValues (primitives t m vs) = ⊤
IsOfValues (binaries t m os bs) = ⊤
IsOfValues (fixed_size_binaries t m k n bs) = ⊤
IsOfValues (views t m vs buffers) = ⊤
IsOfValues _ = ⊥
