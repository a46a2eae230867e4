-- How many arrays a layout is made of: itself, and those inside it.
use Rattle.std.specs.Prelude.{ℕ, ◌+◌}
use Rattle.arrow_layout.specs.Layouts.{Layout, lists, fixed_size_lists, structs, sparse_unions, dense_unions, dictionaries, Layouts, no_layouts, child}

abbrev mutual
  pub node_count : Layout → ℕ
  node_count (lists t m os l) = node_count l + 1
  node_count (fixed_size_lists t m k n l) = node_count l + 1
  node_count (structs t m n ls) = node_counts ls + 1
  node_count (sparse_unions t o ts ls) = node_counts ls + 1
  node_count (dense_unions t o ts os ls) = node_counts ls + 1
  node_count (dictionaries t u m ks l) = node_count l + 1
  node_count _ = 1

  pub node_counts : Layouts → ℕ
  node_counts no_layouts = 0
  node_counts (child l ls) = node_count l + node_counts ls
