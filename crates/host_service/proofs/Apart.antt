-- Lines that are done apart.
use Rattle.std.proofs.Common.{◌≡◌, ◌∙◌, ℕ, ◌<◌, false, true, List, [], ◌∷◌, ◌++◌, length, ap, arith}
use Rattle.std.specs.Prelude.{decimal}
use Rattle.std.specs.Int.{IsInRange}
use Rattle.std.specs.Str.Parse.{AllDigits}
use Rattle.std.proofs.lemmas.Fmt.{decimal_nonempty, digits_decimal}
use Rattle.std.proofs.lemmas.Str.Parse.{digit_at, numerals_by_value, tells_digits}
use Rattle.host_service.specs.Asking.{AsksHost, is_apart}
use Rattle.host_service.specs.Numbers.{IsNumbered}
use Rattle.host_service.specs.declared.asked.HostRequest.{HostRequest}
use Rattle.host_service.specs.declared.asked.HostRequest.TheVariants as host_asked
use Rattle.host_service.specs.declared.number.EpochNumber.{EpochNumber}
use Rattle.host_service.proofs.Digits.{parts}

pub asks_apart : (line : List ℕ) (asked : HostRequest) → AsksHost line asked → is_apart line ≡ true
asks_apart line (host_asked.Release now) (digits, is, number) = ap is_apart is
asks_apart line host_asked.State is = ap is_apart is
asks_apart line (host_asked.Join bytes) (digits, is, decoded) = ap is_apart is
asks_apart line host_asked.Again is = ap is_apart is

digit_first : (digits rest : List ℕ) → AllDigits 10 digits → 0 < length digits → is_apart (digits ++ rest) ≡ false
digit_first [] rest are some = absurd (omega (arith, some))
digit_first (d ∷ digits) rest are some =
    let range : IsInRange 48 57 d = digit_at (d ∷ digits) 0 are (omega arith) in
    grind (arith, range.0, range.1)

-- a line with a number begins with a digit
pub numbered_not_apart : (line : List ℕ) (n : EpochNumber) (rest : List ℕ) → IsNumbered line n rest → is_apart line ≡ false
numbered_not_apart line n rest numbered =
    let model = numerals_by_value (AllDigits 10) tells_digits in
    ap is_apart (parts line rest n numbered) ∙ digit_first (decimal n.epoch) (47 ∷ (decimal n.places ++ 32 ∷ rest)) (digits_decimal model n.epoch numbered.epoch) (decimal_nonempty n.epoch numbered.epoch)
