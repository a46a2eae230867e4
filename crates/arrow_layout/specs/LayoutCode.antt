-- A code of layouts, which tells them apart: what a model whose value is a layout needs.
use Rattle.std.specs.Prelude.{◌≡◌, ℕ, ℤ, List, [], ◌∷◌, get_or, Option, None, refl}
use Rattle.std.specs.Coded.{Coded, coded_ℕ, coded_ℤ, coded_list, coded_option, coded×, code_by}
use mathlib.Core.Path.{ap, ap₂}
use Rattle.arrow_layout.specs.Trees.{Tree, Trees, tree, no_trees, and_tree, tree_code}
use Rattle.arrow_types.specs.TypeData.{TypeData}
use Rattle.arrow_types.specs.TypeData as T
use Rattle.arrow_types.specs.Code.{type_code}
use Rattle.arrow_buffers.specs.Bits.{Bits, bits_code, plain}
use Rattle.arrow_flat.specs.Views.{View}
use Rattle.arrow_flat.specs.ViewCode.{view_code}
use Rattle.arrow_layout.specs.Layouts.{Layout, nulls, booleans, primitives, binaries, fixed_size_binaries, views, lists, fixed_size_lists, structs, sparse_unions, dense_unions, dictionaries, Layouts, no_layouts, child}

-- the buffers of a flat layout: bits, rows of numbers, bytes, views and their buffers
abbrev pub Flat : Type 0
Flat = Bits × (List (List ℤ) × (List ℕ × (List View × List (List ℕ))))

abbrev pub flat_code : Coded Flat
flat_code =
    coded× bits_code (coded× (coded_list (coded_list coded_ℤ)) (coded× (coded_list coded_ℕ) (coded× (coded_list view_code) (coded_list (coded_list coded_ℕ)))))

abbrev pub no_flat : Flat
no_flat = (plain [], ([], ([], ([], []))))

-- which layout it is, its type, the type of its keys, its mask, two counts, two lists of numbers, and its buffers
abbrev pub Head : Type 0
Head = ℕ × (TypeData × (TypeData × (Option Bits × (ℕ × (ℕ × (List ℤ × (List ℤ × Flat)))))))

abbrev pub head_code : Coded Head
head_code =
    coded× coded_ℕ (coded× type_code (coded× type_code (coded× (coded_option bits_code) (coded× coded_ℕ (coded× coded_ℕ
    (coded× (coded_list coded_ℤ) (coded× (coded_list coded_ℤ) flat_code)))))))

abbrev pub head : ℕ → TypeData → Option Bits → ℕ → ℕ → List ℤ → List ℤ → Flat → Head
head k t m a b os ts flat = (k, (t, (T.null, (m, (a, (b, (os, (ts, flat))))))))

abbrev mutual
  pub layout_tree : Layout → Tree Head
  layout_tree (nulls t n) = tree (head 0 t None n 0 [] [] no_flat) no_trees
  layout_tree (booleans t m vs) = tree (head 1 t m 0 0 [] [] (vs, ([], ([], ([], []))))) no_trees
  layout_tree (primitives t m vs) = tree (head 2 t m 0 0 [] [] (plain [], (vs, ([], ([], []))))) no_trees
  layout_tree (binaries t m os bs) = tree (head 3 t m 0 0 os [] (plain [], ([], (bs, ([], []))))) no_trees
  layout_tree (fixed_size_binaries t m k n bs) = tree (head 4 t m k n [] [] (plain [], ([], (bs, ([], []))))) no_trees
  layout_tree (views t m vs buffers) = tree (head 5 t m 0 0 [] [] (plain [], ([], ([], (vs, buffers))))) no_trees
  layout_tree (lists t m os l) = tree (head 6 t m 0 0 os [] no_flat) (and_tree (layout_tree l) no_trees)
  layout_tree (fixed_size_lists t m k n l) = tree (head 7 t m k n [] [] no_flat) (and_tree (layout_tree l) no_trees)
  layout_tree (structs t m n ls) = tree (head 8 t m n 0 [] [] no_flat) (layout_trees ls)
  layout_tree (sparse_unions t o ts ls) = tree (head 9 t None o 0 [] ts no_flat) (layout_trees ls)
  layout_tree (dense_unions t o ts os ls) = tree (head 10 t None o 0 os ts no_flat) (layout_trees ls)
  layout_tree (dictionaries t u m ks l) = tree (11, (t, (u, (m, (0, (0, (ks, ([], no_flat)))))))) (and_tree (layout_tree l) no_trees)

  pub layout_trees : Layouts → Trees Head
  layout_trees no_layouts = no_trees
  layout_trees (child l ls) = and_tree (layout_tree l) (layout_trees ls)

-- the first child, where there is one
abbrev pub first_child : Layouts → Layout
first_child no_layouts = nulls T.null 0
first_child (child l ls) = l

-- every layout that a head and children can stand for, by its number
abbrev pub layouts_at : TypeData → TypeData → Option Bits → ℕ → ℕ → List ℤ → List ℤ → Flat → Layouts → List Layout
layouts_at t u m a b os ts flat ls =
    nulls t a
    ∷ booleans t m flat.0
    ∷ primitives t m flat.1.0
    ∷ binaries t m os flat.1.1.0
    ∷ fixed_size_binaries t m a b flat.1.1.0
    ∷ views t m flat.1.1.1.0 flat.1.1.1.1
    ∷ lists t m os (first_child ls)
    ∷ fixed_size_lists t m a b (first_child ls)
    ∷ structs t m a ls
    ∷ sparse_unions t a ts ls
    ∷ dense_unions t a ts os ls
    ∷ dictionaries t u m os (first_child ls)
    ∷ []

abbrev mutual
  pub layout_back : Tree Head → Layout
  layout_back (tree h ts) =
      get_or (layouts_at h.1.0 h.1.1.0 h.1.1.1.0 h.1.1.1.1.0 h.1.1.1.1.1.0 h.1.1.1.1.1.1.0 h.1.1.1.1.1.1.1.0 h.1.1.1.1.1.1.1.1 (layouts_back ts)) h.0 (nulls T.null 0)

  pub layouts_back : Trees Head → Layouts
  layouts_back no_trees = no_layouts
  layouts_back (and_tree t ts) = child (layout_back t) (layouts_back ts)

mutual
  pub layout_same : (l : Layout) → layout_back (layout_tree l) ≡ l
  layout_same (nulls t n) = refl
  layout_same (booleans t m vs) = refl
  layout_same (primitives t m vs) = refl
  layout_same (binaries t m os bs) = refl
  layout_same (fixed_size_binaries t m k n bs) = refl
  layout_same (views t m vs buffers) = refl
  layout_same (lists t m os l) = ap (lists t m os) (layout_same l)
  layout_same (fixed_size_lists t m k n l) = ap (fixed_size_lists t m k n) (layout_same l)
  layout_same (structs t m n ls) = ap (structs t m n) (layouts_same ls)
  layout_same (sparse_unions t o ts ls) = ap (sparse_unions t o ts) (layouts_same ls)
  layout_same (dense_unions t o ts os ls) = ap (dense_unions t o ts os) (layouts_same ls)
  layout_same (dictionaries t u m ks l) = ap (dictionaries t u m ks) (layout_same l)

  pub layouts_same : (ls : Layouts) → layouts_back (layout_trees ls) ≡ ls
  layouts_same no_layouts = refl
  layouts_same (child l ls) = ap₂ child (layout_same l) (layouts_same ls)

abbrev pub layout_code : Coded Layout
layout_code = code_by (Tree Head) (tree_code head_code) layout_tree layout_back layout_same
