-- What a line asks for that is refused, and that it asks for one command at most.
use Rattle.std.proofs.Common.{◌≡◌, ◌≢◌, ℕ, List, ◌++◌, Some, Result, Ok, Err, inl, inr, sym, ap, ◌∙◌, subst, get_or}
use Rattle.std.proofs.Common.{refl, arith}
use Rattle.std.specs.Prelude.{IfErr, IsErr}
use Rattle.hex.specs.Hex.{decode_of}
use Rattle.hex.specs.declared.error.FromHexError.{FromHexError}
use Rattle.command_log.specs.Reading.{command_in}
use Rattle.command_log.specs.Spelling.{Spells, spelling}
use Rattle.grant_machine.specs.Fits.{FitsCommand}
use Rattle.grant_machine.specs.declared.command.Command.{Command}
use Rattle.node_lines.specs.Commands.{command_word}
use Rattle.node_lines.specs.declared.fault.LineFault.{LineFault}
use Rattle.node_lines.specs.declared.fault.LineFault.TheVariants as fault
use Rattle.node_lines.proofs.Commands.{one_text}
use Rattle.scheduler_lines.specs.Asking.{AsksFor, AsksNothing, IsRefused, SpellsAt, apply_word}

same_digits : (a b : List ℕ) → apply_word ++ a ≡ apply_word ++ b → a ≡ b
same_digits a b e = cc

-- a line doesn't begin with both words
apart : (a b : List ℕ) → apply_word ++ a ≡ command_word ++ b → ⊥
apart a b e = let first : 97 ≡ 99 = ap (λ (x : List ℕ). get_or x 0 0) e in absurd (omega (arith, first))

not_both : (bytes : List ℕ) (r : Result (List ℕ) FromHexError) → IsErr r → r ≡ Ok bytes → ⊥
not_both bytes (Ok other) fails is = absurd cc
not_both bytes (Err e) fails is = absurd cc

same_bytes : (a b v w : List ℕ) → a ≡ b → decode_of a ≡ Ok v → decode_of b ≡ Ok w → v ≡ w
same_bytes a b v w same first second = cc

-- each command is read from its spelling
abbrev pub ReadBack : Type 0
ReadBack = (c : Command) → FitsCommand c → command_in (spelling c) ≡ Some c

one_spelled : ReadBack → (v w : List ℕ) (c d : Command) → v ≡ w → Spells v c → Spells w d → c ≡ d
one_spelled back v w c d same (fits, is) (too, also) =
    let first = back c fits in
    let second = back d too in
    let spelled : spelling c ≡ spelling d = sym is ∙ same ∙ also in
    let read : command_in (spelling c) ≡ command_in (spelling d) = ap command_in spelled in
    cc (first, second, read)

-- a line asks for one command at most
pub one_asked : ReadBack → (line : List ℕ) (c d : Command) → AsksFor line c → AsksFor line d → c ≡ d
one_asked back line c d (short, inl a) (small, inl b) =
    let digits : a.0 ≡ b.0 = same_digits a.0 b.0 (sym a.1 ∙ b.1) in
    one_spelled back a.2.0 b.2.0 c d (same_bytes a.0 b.0 a.2.0 b.2.0 digits a.2.1 b.2.1) a.2.2 b.2.2
one_asked back line c d (short, inl a) (small, inr b) = absurd (apart a.0 b.0.0 (sym a.1 ∙ b.0.1))
one_asked back line c d (short, inr a) (small, inl b) = absurd (apart b.0 a.0.0 (sym b.1 ∙ a.0.1))
one_asked back line c d (short, inr a) (small, inr b) = one_text line c d a.1 b.1

-- what is refused asks for nothing, but for want of memory
pub refused_asks_nothing : (line : List ℕ) (why : LineFault) → IsRefused line why → why ≢ fault.OutOfMemory → AsksNothing line
refused_asks_nothing line fault.NoLine refused other c (short, inl a) = refused.0 a.0 a.1
refused_asks_nothing line fault.NoLine refused other c (short, inr a) = refused.1 a.0.0 a.0.1
refused_asks_nothing line fault.NoHex refused other c (short, inl a) =
    let digits : a.0 ≡ refused.0 = same_digits a.0 refused.0 (sym a.1 ∙ refused.1) in
    not_both a.2.0 (decode_of refused.0) refused.2 (ap decode_of (sym digits) ∙ a.2.1)
refused_asks_nothing line fault.NoHex refused other c (short, inr a) = apart refused.0 a.0.0 (sym refused.1 ∙ a.0.1)
refused_asks_nothing line fault.NoNumber refused other c asks = refused
refused_asks_nothing line fault.NoCommand (inl refused) other c (short, inl a) =
    let digits : a.0 ≡ refused.0 = same_digits a.0 refused.0 (sym a.1 ∙ refused.1) in
    let bytes : a.2.0 ≡ refused.2.0 = same_bytes a.0 refused.0 a.2.0 refused.2.0 digits a.2.1 refused.2.1 in
    refused.2.2 c (subst (λ (x : List ℕ). Spells x c) bytes a.2.2)
refused_asks_nothing line fault.NoCommand (inl refused) other c (short, inr a) = apart refused.0 a.0.0 (sym refused.1 ∙ a.0.1)
refused_asks_nothing line fault.NoCommand (inr refused) other c (short, inl a) = apart a.0 refused.0.0 (sym a.1 ∙ refused.0.1)
refused_asks_nothing line fault.NoCommand (inr refused) other c (short, inr a) = refused.1 c a.1
refused_asks_nothing line (fault.NoLetter why) refused other c asks = refused
refused_asks_nothing line fault.OutOfMemory refused other c asks = absurd (other refl)
refused_asks_nothing line fault.TooLong refused other c asks = refused

pub refusals_ask_nothing : {X : Type 0} (line : List ℕ) (r : Result X LineFault) → IfErr r (IsRefused line) → IfErr r (λ why. why ≢ fault.OutOfMemory → AsksNothing line)
refusals_ask_nothing line (Ok x) refused = tt
refusals_ask_nothing line (Err why) refused = refused_asks_nothing line why refused
