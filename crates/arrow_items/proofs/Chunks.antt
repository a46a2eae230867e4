-- The items of picked fixed-size lists.
use Rattle.std.proofs.Common.{◌≡◌, ℕ, zero, suc, ◌+◌, ◌*◌, ◌++◌, flat_map, replicate, ap, sym, ◌∙◌, arith, Option, None}
use Rattle.arrow_canon.specs.Picks.{span}
use Rattle.arrow_items.specs.Items.{chunk_places}
use Rattle.arrow_items.proofs.Spans.{span_join, replicate_join}

pub chunks_slots : (k a n : ℕ) → flat_map (chunk_places k) (span a n) ≡ span (a * k) (n * k)
chunks_slots k a zero = let e : 0 * k ≡ 0 = omega arith in sym (ap (span (a * k)) e)
chunks_slots k a (suc n) =
    ap (λ ps. span (a * k) k ++ ps) (chunks_slots k (a + 1) n) ∙ span_join (a * k) k ((a + 1) * k) (n * k) (omega arith)
    ∙ (let g : k + n * k ≡ suc n * k = omega arith in ap (span (a * k)) g)

pub chunks_fill : (k n : ℕ) → flat_map (chunk_places k) (replicate n None) ≡ replicate (n * k) None
chunks_fill k zero = let e : 0 * k ≡ 0 = omega arith in sym (ap (λ m. replicate {A = Option ℕ} m None) e)
chunks_fill k (suc n) =
    ap (λ ps. replicate k None ++ ps) (chunks_fill k n) ∙ replicate_join None k (n * k) ∙ (let g : k + n * k ≡ suc n * k = omega arith in ap (λ m. replicate {A = Option ℕ} m None) g)
