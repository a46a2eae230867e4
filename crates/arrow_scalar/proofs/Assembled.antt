-- A layout from its type, its mask, its children and what stands in its own buffers.
use Rattle.std.proofs.Common.{◌≡◌, ◌+◌, List, [], ◌∷◌, Option, refl, ap, sym, ◌∙◌, arith}
use Rattle.arrow_buffers.specs.Bits.{Bits}
use Rattle.arrow_layout.specs.Denote.{validity_of}
use Rattle.arrow_layout.specs.LayoutCode.{first_child}
use Rattle.arrow_layout.specs.Layouts.{Layout, nulls, booleans, primitives, binaries, fixed_size_binaries, views, lists, fixed_size_lists, structs, sparse_unions, dense_unions, dictionaries, Layouts, layouts, type_of}
use Rattle.arrow_layout.specs.NodeCount.{node_count, node_counts}
use Rattle.arrow_layout.specs.Paths.{children_of}
use Rattle.arrow_scalar.specs.Bare.{AreSameButChildren, bare}
use Rattle.arrow_types.specs.TypeData.{TypeData}

abbrev assembled : TypeData → Option Bits → Layouts → Layout → Layout
assembled t m ls (nulls u n) = nulls t n
assembled t m ls (booleans u k vs) = booleans t m vs
assembled t m ls (primitives u k vs) = primitives t m vs
assembled t m ls (binaries u k os bs) = binaries t m os bs
assembled t m ls (fixed_size_binaries u k i n bs) = fixed_size_binaries t m i n bs
assembled t m ls (views u k vs buffers) = views t m vs buffers
assembled t m ls (lists u k os l) = lists t m os (first_child ls)
assembled t m ls (fixed_size_lists u k i n l) = fixed_size_lists t m i n (first_child ls)
assembled t m ls (structs u k n rs) = structs t m n ls
assembled t m ls (sparse_unions u o ts rs) = sparse_unions t o ts ls
assembled t m ls (dense_unions u o ts os rs) = dense_unions t o ts os ls
assembled t m ls (dictionaries u v k ks l) = dictionaries t v m ks (first_child ls)

assembled-is : (l : Layout) → assembled (type_of l) (validity_of l) (children_of l) (bare l) ≡ l
assembled-is (nulls t n) = refl
assembled-is (booleans t m vs) = refl
assembled-is (primitives t m vs) = refl
assembled-is (binaries t m os bs) = refl
assembled-is (fixed_size_binaries t m k n bs) = refl
assembled-is (views t m vs buffers) = refl
assembled-is (lists t m os l) = refl
assembled-is (fixed_size_lists t m k n l) = refl
assembled-is (structs t m n ls) = refl
assembled-is (sparse_unions t o ts ls) = refl
assembled-is (dense_unions t o ts os ls) = refl
assembled-is (dictionaries t u m ks l) = refl

-- layouts that differ in their children alone are equal where those are
pub layouts_one : (l r : Layout) → AreSameButChildren l r → children_of l ≡ children_of r → l ≡ r
layouts_one l r h e =
    sym (assembled-is l)
    ∙ ap (λ t. assembled t (validity_of l) (children_of l) (bare l)) h.types
    ∙ ap (λ m. assembled (type_of r) m (children_of l) (bare l)) h.masks
    ∙ ap (λ ls. assembled (type_of r) (validity_of r) ls (bare l)) e
    ∙ ap (λ k. assembled (type_of r) (validity_of r) (children_of r) k) h.own
    ∙ assembled-is r

pub lists_one : (ls rs : List Layout) → layouts ls ≡ layouts rs → ls ≡ rs
lists_one [] [] e = refl
lists_one [] (r ∷ rs) e = cc
lists_one (l ∷ ls) [] e = cc
lists_one (l ∷ ls) (r ∷ rs) e =
    let heads : l ≡ r = cc in
    let tails : layouts ls ≡ layouts rs = cc in
    ap (λ x. x ∷ ls) heads ∙ ap (λ xs. r ∷ xs) (lists_one ls rs tails)

-- an array is one more than its children have
pub node_count-children : (l : Layout) → node_count l ≡ node_counts (children_of l) + 1
node_count-children (nulls t n) = refl
node_count-children (booleans t m vs) = refl
node_count-children (primitives t m vs) = refl
node_count-children (binaries t m os bs) = refl
node_count-children (fixed_size_binaries t m k n bs) = refl
node_count-children (views t m vs buffers) = refl
node_count-children (lists t m os l) = omega arith
node_count-children (fixed_size_lists t m k n l) = omega arith
node_count-children (structs t m n ls) = refl
node_count-children (sparse_unions t o ts ls) = refl
node_count-children (dense_unions t o ts os ls) = refl
node_count-children (dictionaries t u m ks l) = omega arith
