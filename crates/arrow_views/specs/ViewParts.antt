-- The sixteen bytes of a view, and the parts that stand in them.
use Rattle.arrow_flat.specs.Natives.{AreBytes}
use Rattle.std.specs.Prelude.{◌≡◌, ℕ, ◌^◌, ◌<◌, ◌≤◌, nat_le, cond, List, ◌++◌, take, drop, length}
use Rattle.std.specs.Int.{w32, from_le_bytes, to_le_bytes}
use Rattle.arrow_flat.specs.Views.{View, inline, long}

-- The number of the four bytes from `at` on, the lowest first.
abbrev pub number_at : ℕ → List ℕ → ℕ
number_at at bs = from_le_bytes w32 (take 4 (drop at bs))

abbrev pub le_bytes : ℕ → List ℕ
le_bytes n = to_le_bytes w32 n

-- The length, and up to twelve the rest as it stands; else the first four bytes, the buffer and the offset.
abbrev pub view_of : List ℕ → View
view_of bs =
    cond (nat_le (number_at 0 bs) 12) (inline (number_at 0 bs) (drop 4 bs))
    (long (number_at 0 bs) (take 4 (drop 4 bs)) (number_at 8 bs) (number_at 12 bs))

abbrev pub bytes_of : View → List ℕ
bytes_of (inline n bs) = le_bytes n ++ bs
bytes_of (long n p b o) = le_bytes n ++ (p ++ (le_bytes b ++ le_bytes o))

-- The numbers where a long view has its buffer and its offset.
abbrev pub buffer_of : View → ℕ
buffer_of (inline n bs) = number_at 4 bs
buffer_of (long n p b o) = b

abbrev pub offset_of : View → ℕ
offset_of (inline n bs) = number_at 8 bs
offset_of (long n p b o) = o

-- The four bytes behind the length.
abbrev pub prefix_of : View → List ℕ
prefix_of (inline n bs) = take 4 bs
prefix_of (long n p b o) = p

-- What sixteen bytes have: each byte and each number is one of its place.
abbrev pub IsPlaced : View → Type 0
IsPlaced (inline n bs) = (n ≤ 12) × (length bs ≡ 12) × AreBytes bs
IsPlaced (long n p b o) = (12 < n) × (length p ≡ 4) × AreBytes p × (n < 2 ^ 32) × (b < 2 ^ 32) × (o < 2 ^ 32)
