-- How long lines are.
use Rattle.std.proofs.Common.{◌≡◌, ℕ, zero, suc, ◌+◌, ◌-◌, ◌<◌, ◌≤◌, ◌^◌, ◌==◌, Bool, true, false, if◌then◌else◌, List}
use Rattle.std.proofs.Common.{[], ◌∷◌, ◌++◌, length, replicate, codes, decimal, refl, arith, length-append}
use Rattle.std.proofs.lemmas.List.{length-replicate}
use Rattle.std.proofs.lemmas.Fmt.{length-decimal-le}
use Rattle.map_body.specs.declared.element.Element.{Element}
use Rattle.map_body.specs.declared.interval.Interval.{Interval}
use Rattle.map_body.specs.Rules.{FitsElement}
use Rattle.map_body.specs.Sids.{everybody}
use Rattle.map_text.specs.Bars.{columns, bar_mark, column_owner, bar, owners}
use Rattle.map_text.specs.Lines.{right, left, indent, waits, span_text, sid_name, owner_name, bar_sign, interval_front}
use Rattle.map_text.specs.Lines.{interval_line, waiting_line, head_line, owners_line}
use Rattle.map_text.specs.Columns.{FitsInterval, LinesFit}

columns_len : (mark : ℕ → ℕ) (n : ℕ) → length (columns mark n) ≡ n
columns_len mark zero = refl
columns_len mark (suc n) = let rest = columns_len mark n in let joined = length-append (columns mark n) (mark n ∷ []) in omega (arith, rest, joined)

right_len : (width : ℕ) (text : List ℕ) → length text ≤ width → length (right width text) ≡ width
unfolding right
right_len width text short =
    let spaces = length-replicate {A = ℕ} (width - length text) 32 in
    let joined = length-append (replicate (width - length text) 32) text in
    omega (arith, spaces, joined)

left_len_short : (width : ℕ) (text : List ℕ) → length text ≤ width + 1 → length (left width text) ≤ width + 1
unfolding left
left_len_short width text short =
    let spaces = length-replicate {A = ℕ} (width - length text) 32 in
    let joined = length-append text (replicate (width - length text) 32) in
    omega (arith, spaces, joined)

sid_len : (sid : ℕ) → sid < 2 ^ 14 → length (sid_name sid) ≤ 9
unfolding sid_name
sid_len sid small = let digits = length-decimal-le 5 sid (omega arith) (omega arith) (omega arith) in omega (arith, digits)

owner_len_on : (b : Bool) (sid : ℕ) → sid < 2 ^ 14 → length (if b then codes "all" else sid_name sid) ≤ 9
unfolding sid_name
owner_len_on true sid small = omega arith
owner_len_on false sid small = sid_len sid small

front_len : (i : Interval) → FitsInterval i → length (interval_front i) ≤ 34
unfolding interval_front owner_name
front_len i fits =
    let from = right_len 6 (decimal i.from) (let d = length-decimal-le 5 i.from (omega arith) (omega (arith, fits.from)) (omega (arith, fits.from)) in omega (arith, d)) in
    let size = right_len 6 (decimal (i.to - i.from)) (let d = length-decimal-le 5 (i.to - i.from) (omega arith) (omega (arith, fits.to)) (omega (arith, fits.to)) in omega (arith, d)) in
    let name = left_len_short 8 (owner_name i.sid) (owner_len_on (i.sid == everybody) i.sid fits.sid) in
    let iuc = right_len 4 (decimal i.iuc) (let d = length-decimal-le 2 i.iuc (omega arith) (omega (arith, fits.iuc)) (omega (arith, fits.iuc)) in omega (arith, d)) in
    let a = length-append (right 6 (decimal i.from)) (right 6 (decimal (i.to - i.from)) ++ (codes "  " ++ (left 8 (owner_name i.sid) ++ (right 4 (decimal i.iuc) ++ codes "      |")))) in
    let b = length-append (right 6 (decimal (i.to - i.from))) (codes "  " ++ (left 8 (owner_name i.sid) ++ (right 4 (decimal i.iuc) ++ codes "      |"))) in
    let c = length-append (left 8 (owner_name i.sid)) (right 4 (decimal i.iuc) ++ codes "      |") in
    let d = length-append (right 4 (decimal i.iuc)) (codes "      |") in
    omega (arith, from, size, name, iuc, a, b, c, d)

interval_len : (len : ℕ) (i : Interval) → FitsInterval i → length (interval_line len i) ≤ 101
unfolding interval_line bar
interval_len len i fits =
    let front = front_len i fits in
    let cells = columns_len (bar_mark i.from i.to len (bar_sign i)) 60 in
    let a = length-append (interval_front i) (bar i.from i.to len (bar_sign i) ++ codes "|\n") in
    let b = length-append (bar i.from i.to len (bar_sign i)) (codes "|\n") in
    omega (arith, front, cells, a, b)

owners_len : (len : ℕ) (is : List Interval) → length (owners_line len is) ≤ 101
unfolding owners_line owners
owners_len len is =
    let cells = columns_len (column_owner is len) 60 in
    let a = length-append (owners is len) (codes "|\n") in
    omega (arith, cells, a)

waiting_len : (e : Element) → FitsElement e → length (waiting_line e) ≤ 101
unfolding waiting_line indent waits
waiting_len e fits =
    let name = left_len_short 8 (sid_name e.sid) (sid_len e.sid fits.sid) in
    let iuc = right_len 4 (decimal e.iuc) (let d = length-decimal-le 2 e.iuc (omega arith) (omega (arith, fits.iuc)) (omega (arith, fits.iuc)) in omega (arith, d)) in
    let b = length-append (left 8 (sid_name e.sid)) (right 4 (decimal e.iuc) ++ codes "      waits\n") in
    let c = length-append (right 4 (decimal e.iuc)) (codes "      waits\n") in
    omega (arith, name, iuc, b, c)

head_len : (ch number command start len ack : ℕ) → ch < 2 ^ 8 → number < 10 ^ 9 → command < 10 ^ 9 → start < 2 ^ 63 → len < 2 ^ 16
    → ack < 2 ^ 32 → length (head_line ch number command start len ack) ≤ 101
unfolding head_line span_text
head_len ch number command start len ack ch_fits number_fits command_fits start_fits len_fits ack_fits =
    let d1 = length-decimal-le 3 ch (omega arith) (omega arith) (omega arith) in
    let d2 = length-decimal-le 9 number (omega arith) (omega arith) (omega arith) in
    let d3 = length-decimal-le 9 command (omega arith) (omega arith) (omega arith) in
    let d4 = length-decimal-le 19 start (omega arith) (omega arith) (omega arith) in
    let d5 = length-decimal-le 5 len (omega arith) (omega arith) (omega arith) in
    let d6 = length-decimal-le 10 ack (omega arith) (omega arith) (omega arith) in
    let t6 = codes "\n" in
    let t5 = codes " ack " ++ decimal ack in
    let t4 = codes " len " ++ (decimal len ++ t5) in
    let t3 = codes " start " ++ (decimal start ++ t4) in
    let t2 = codes " command " ++ (decimal command ++ (t3 ++ t6)) in
    let t1 = codes " map " ++ (decimal number ++ t2) in
    let a1 = length-append (decimal ch) t1 in
    let a2 = length-append (decimal number) t2 in
    let a3 = length-append (decimal command) (t3 ++ t6) in
    let a4 = length-append (decimal start) t4 in
    let a5 = length-append (decimal len) t5 in
    let a6 = length-append t3 t6 in
    omega (arith, d1, d2, d3, d4, d5, d6, a1, a2, a3, a4, a5, a6)

pub lines_fit : LinesFit
lines_fit = record { head = head_len; owners = owners_len; interval = interval_len; waiting = waiting_len }
