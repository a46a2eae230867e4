-- Views of texts of two hexadecimal digits a byte.
use Rattle.std.proofs.Common.{◌≡◌, ℕ, ◌*◌, ◌/◌, ◌<◌, ◌≤◌, List, length, refl, ap, sym, ◌∙◌, subst, arith, le-leb, Option, Some, None, Result, Ok, Err}
use Rattle.std.specs.Prelude.{IsOk, MatchResult, option_and_then, if◌then◌else◌, nat_le}
use Rattle.std.proofs.lemmas.Bool.{lt-leb}
use Rattle.hex.specs.Hex.{decode_of, decode_sized}
use Rattle.hex.specs.declared.error.FromHexError.{FromHexError}
use Rattle.hex.proofs.HexLemmas.{decode_of-ok, decode_sized-ok, decode_sized-twice}
use Rattle.arrow_flat.specs.Natives.{octets}
use Rattle.arrow_flat.specs.Views.{View, inline_view}
use Rattle.column_grammar.specs.Values.{decoded}
use Rattle.column_grammar.specs.Reads.{inline_of}
use Rattle.column_read.proofs.Hex.{fits}

long_of : (text : List ℕ) (r : Result (List ℕ) FromHexError) → decode_of text ≡ r → 12 < length text / 2 → option_and_then inline_of (decoded r) ≡ None
long_of text (Ok bs) e h =
    let digits = (decode_of-ok text bs e).2 in
    let many : 12 < length bs = omega (arith, digits, h) in
    ap (λ t. if t then Some (inline_view bs) else None) (lt-leb (length bs) 12 many)
long_of text (Err error) e h = refl

-- more than twelve bytes are no inline value
pub too_long : (text : List ℕ) → 12 < length text / 2 → None ≡ option_and_then inline_of (decoded (decode_of text))
too_long text h = sym (long_of text (decode_of text) refl h)

short_of : (text out : List ℕ) (n : ℕ) (v : View) (d : Result (List ℕ) FromHexError) (r : Result Unit FromHexError) → decode_sized text n ≡ d → n ≤ 12
    → MatchResult d (λ bytes. (r ≡ Ok tt) × (out ≡ bytes)) (λ e. r ≡ Err e) → IsOk r → v ≡ inline_view (octets out) → Some v ≡ option_and_then inline_of (decoded (decode_of text))
short_of text out n v (Ok bs) r e few m ok is =
    let twice : length text ≡ 2 * n = decode_sized-ok text n bs e in
    let whole : decode_of text ≡ Ok bs = sym (decode_sized-twice text n twice) ∙ e in
    let digits = (decode_of-ok text bs whole).2 in
    let small : length bs ≤ 12 = omega (arith, twice, digits, few) in
    let same : octets out ≡ bs = ap octets m.1 ∙ fits text bs whole in
    ap Some is ∙ ap (λ xs. Some (inline_view xs)) same ∙ sym (ap (λ t. if t then Some (inline_view bs) else None) (le-leb (length bs) 12 small))
    ∙ sym (ap (λ r. option_and_then inline_of (decoded r)) whole)
short_of text out n v (Err error) r e few m ok is = cc (subst IsOk m ok)

-- the view of what was decoded
pub inline_there : (text out : List ℕ) (n : ℕ) (v : View) (r : Result Unit FromHexError) → n ≤ 12 → MatchResult (decode_sized text n) (λ bytes. (r ≡ Ok tt) × (out ≡ bytes)) (λ e. r ≡ Err e)
    → IsOk r → v ≡ inline_view (octets out) → Some v ≡ option_and_then inline_of (decoded (decode_of text))
inline_there text out n v r few m ok is = short_of text out n v (decode_sized text n) r refl few m ok is
