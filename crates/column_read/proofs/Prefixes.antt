-- The first bytes of a range.
use Rattle.std.proofs.Common.{◌≡◌, ℕ, ◌+◌, ◌-◌, ◌%◌, ◌≤◌, List, length, take, drop, ap, sym, ◌∙◌, arith, le-leb}
use Rattle.std.specs.Prelude.{if◌then◌else◌, replicate}
use Rattle.std.proofs.lemmas.List.{take-map, drop-map, length-map}
use Rattle.arrow_flat.specs.Natives.{octets}
use Rattle.column_read.specs.Parts.{four_of}

pub four_there : (bs : List ℕ) (n o : ℕ) → n ≤ length bs → o ≤ length bs - n → octets (take (o + 4 - o) (drop o bs)) ≡ four_of (octets bs) n o
four_there bs n o h k =
    let four : o + 4 - o ≡ 4 = omega arith in
    let count : length (octets bs) ≡ length bs = length-map bs (λ b. b % 256) in
    let within : o + n ≤ length (octets bs) = omega (arith, h, k, count) in
    ap (λ i. octets (take i (drop o bs))) four ∙ sym (take-map (λ b. b % 256) 4 (drop o bs)) ∙ ap (take 4) (sym (drop-map (λ b. b % 256) o bs))
    ∙ sym (ap (λ t. if t then take 4 (drop o (octets bs)) else replicate 4 0) (le-leb (o + n) (length (octets bs)) within))
