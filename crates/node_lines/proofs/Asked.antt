-- What a line asks that is refused, and that it asks one thing at most.
use Rattle.std.proofs.Common.{◌≡◌, ◌≢◌, ℕ, ◌+◌, ◌==◌, ◌<◌, ◌≤◌, List, ◌∷◌, ◌++◌, length, Result, Ok, Err, inl, inr}
use Rattle.std.proofs.Common.{refl, sym, ap, subst, ◌∙◌, get_or, if◌then◌else◌, arith}
use Rattle.std.specs.Prelude.{IfErr, IsErr, codes}
use Rattle.hex.specs.Hex.{decode_of}
use Rattle.hex.specs.declared.error.FromHexError.{FromHexError}
use Rattle.ballots.specs.declared.letters.Letter.{Letter}
use Rattle.command_log.specs.Spelling.{spelling as command_spelling}
use Rattle.letter_bytes.specs.Reading.{letter_of}
use Rattle.letter_bytes.specs.Spelling.{spelling}
use Rattle.std.specs.Str.Parse.{digits_value, without_leading_plus}
use Rattle.letter_bytes.proofs.Callers.{read_again}
use Rattle.node_lines.specs.declared.fault.LineFault.{LineFault}
use Rattle.node_lines.specs.declared.fault.LineFault.TheVariants as fault
use Rattle.node_lines.specs.declared.request.Request.{Request}
use Rattle.node_lines.specs.declared.request.Request.TheVariants as request
use Rattle.node_lines.specs.Commands.{command_word, longest_command}
use Rattle.node_lines.proofs.Commands.{one_text}
use Rattle.node_lines.specs.Lines.{Asks, AsksNothing, IsCommandOffer, IsDigitsOffer, IsLetterText, IsNoLetter, IsNoLine}
use Rattle.node_lines.specs.Lines.{IsNumberText, IsRefused, IsTellText, letter_word, offer_word, release_word}
use Rattle.node_lines.specs.Lines.{tell_word}

same_offer : (a b : List ℕ) → offer_word ++ a ≡ offer_word ++ b → a ≡ b
same_offer a b e = cc

same_release : (a b : List ℕ) → release_word ++ a ≡ release_word ++ b → a ≡ b
same_release a b e = cc

same_letter : (a b : List ℕ) → letter_word ++ a ≡ letter_word ++ b → a ≡ b
same_letter a b e = cc

same_tell : (a b : List ℕ) → tell_word ++ a ≡ tell_word ++ b → a ≡ b
same_tell a b e = cc

-- the forms of a line
data Form : Type 0 where
  LeadForm : Form
  DigitsForm : Form
  CommandForm : Form
  ReleaseForm : Form
  TellForm : Form
  LetterForm : Form

-- the form of a line that asks something: its first byte tells it, and of two the third
abbrev form : List ℕ → Form
form line =
    let first = get_or line 0 0 in
    if first == 111 then DigitsForm
    else if first == 99 then CommandForm
    else if first == 114 then ReleaseForm
    else if first == 116 then TellForm
    else if get_or line 2 0 == 97 then LeadForm
    else LetterForm

-- what a line of a form may ask
abbrev MayAsk : Form → List ℕ → Request → Type 0
MayAsk LeadForm line r = r ≡ request.Lead
MayAsk DigitsForm line r = (value : List ℕ) × (r ≡ request.Offer value) × IsDigitsOffer line value
MayAsk CommandForm line r = (value : List ℕ) × (r ≡ request.Offer value) × IsCommandOffer line value
MayAsk ReleaseForm line r = (now : ℕ) × (r ≡ request.Release now) × Asks line (request.Release now)
MayAsk TellForm line r = (to : ℕ) × (place : ℕ) × (r ≡ request.Tell to place) × Asks line (request.Tell to place)
MayAsk LetterForm line r = (l : Letter) × (r ≡ request.Letter l) × Asks line (request.Letter l)

may_ask : (line : List ℕ) (r : Request) → Asks line r → MayAsk (form line) line r
may_ask line request.Lead asks = subst (λ x. MayAsk (form x) line request.Lead) (sym asks) refl
may_ask line (request.Offer value) (inl asks) = subst (λ x. MayAsk (form x) line (request.Offer value)) (sym asks.1) (value, refl, asks)
may_ask line (request.Offer value) (inr asks) = subst (λ x. MayAsk (form x) line (request.Offer value)) (sym asks.0.1) (value, refl, asks)
may_ask line (request.Release now) asks = subst (λ x. MayAsk (form x) line (request.Release now)) (sym asks.1) (now, refl, asks)
may_ask line (request.Letter l) asks = subst (λ x. MayAsk (form x) line (request.Letter l)) (sym asks.1) (l, refl, asks)
may_ask line (request.Tell to place) asks = subst (λ x. MayAsk (form x) line (request.Tell to place)) (sym asks.1) (to, place, refl, asks)

-- what a line may ask of which the beginning is known
asked : (line start : List ℕ) (r : Request) → line ≡ start → Asks line r → MayAsk (form start) line r
asked line start r is asks = subst (λ x. MayAsk (form x) line r) is (may_ask line r asks)

not_both : (bytes : List ℕ) (r : Result (List ℕ) FromHexError) → IsErr r → r ≡ Ok bytes → ⊥
not_both bytes (Ok other) fails is = absurd cc
not_both bytes (Err e) fails is = absurd cc

-- digits that are refused so are no letter's
no_letter : (digits : List ℕ) (why : LineFault) (l : Letter) → IsNoLetter digits why → why ≢ fault.OutOfMemory → IsLetterText digits l → ⊥
no_letter digits fault.NoLine l refused other text = refused
no_letter digits fault.NoHex l refused other text = not_both text.bytes (decode_of digits) refused text.decoded
no_letter digits fault.NoNumber l refused other text = refused
no_letter digits fault.NoCommand l refused other text = refused
no_letter digits (fault.NoLetter why) l refused other text =
    let same : refused.0 ≡ text.bytes = cc (refused.1, text.decoded) in
    let read : letter_of refused.0 ≡ Ok l = ap letter_of (same ∙ text.spells.1) ∙ read_again l text.spells.0 in
    absurd (cc (read, refused.2))
no_letter digits fault.OutOfMemory l refused other text = other refl
no_letter digits fault.TooLong l refused other text = refused

is_offer : (line digits : List ℕ) → line ≡ offer_word ++ digits → ((value : List ℕ) → decode_of digits ≡ Ok value → ⊥) → AsksNothing line
is_offer line digits is none r asks =
    let (value, same, (more, at, decoded)) = asked line (offer_word ++ digits) r is asks in
    none value (ap decode_of (same_offer digits more (sym is ∙ at)) ∙ decoded)

is_release : (line digits : List ℕ) → line ≡ release_word ++ digits → ((n : ℕ) → IsNumberText digits n → ⊥) → AsksNothing line
is_release line digits is none r asks =
    let (now, same, (more, at, number)) = asked line (release_word ++ digits) r is asks in
    none now (subst (λ (d : List ℕ). IsNumberText d now) (sym (same_release digits more (sym is ∙ at))) number)

is_tell : (line words : List ℕ) → line ≡ tell_word ++ words → ((to place : ℕ) → IsTellText words to place → ⊥) → AsksNothing line
is_tell line words is none r asks =
    let (to, place, same, (more, at, text)) = asked line (tell_word ++ words) r is asks in
    none to place (subst (λ (w : List ℕ). IsTellText w to place) (sym (same_tell words more (sym is ∙ at))) text)

is_letter : (line digits : List ℕ) → line ≡ letter_word ++ digits → ((l : Letter) → IsLetterText digits l → ⊥) → AsksNothing line
is_letter line digits is none r asks =
    let (l, same, (more, at, text)) = asked line (letter_word ++ digits) r is asks in
    none l (subst (λ (d : List ℕ). IsLetterText d l) (sym (same_letter digits more (sym is ∙ at))) text)

is_command : (line rest : List ℕ) → line ≡ command_word ++ rest → ((value : List ℕ) → IsCommandOffer line value → ⊥) → AsksNothing line
is_command line rest is none r asks = let (value, same, offers) = asked line (command_word ++ rest) r is asks in none value offers

is_no_line : (line : List ℕ) → IsNoLine line → AsksNothing line
is_no_line line none request.Lead asks = none.lead asks
is_no_line line none (request.Offer value) (inl asks) = none.offer asks.0 asks.1
is_no_line line none (request.Offer value) (inr asks) = none.command asks.0.0 asks.0.1
is_no_line line none (request.Release now) asks = none.release asks.0 asks.1
is_no_line line none (request.Letter l) asks = none.letter asks.0 asks.1
is_no_line line none (request.Tell to place) asks = none.tell asks.0 asks.1

too_long : (line : List ℕ) → longest_command < length line → length line ≤ longest_command → ⊥
too_long line longer shorter = absurd (omega (arith, longer, shorter))

pub refused_asks_nothing : (line : List ℕ) (why : LineFault) → IsRefused line why → why ≢ fault.OutOfMemory → AsksNothing line
refused_asks_nothing line fault.NoLine refused other = is_no_line line refused
refused_asks_nothing line fault.NoHex (inl refused) other = is_offer line refused.0 refused.1 (λ value. not_both value (decode_of refused.0) refused.2)
refused_asks_nothing line fault.NoHex (inr refused) other = is_letter line refused.0 refused.1 (λ l. no_letter refused.0 fault.NoHex l refused.2 other)
refused_asks_nothing line fault.NoNumber (inl refused) other = is_release line refused.0 refused.1 refused.2
refused_asks_nothing line fault.NoNumber (inr refused) other = is_tell line refused.0 refused.1 refused.2
refused_asks_nothing line fault.NoCommand refused other = is_command line refused.0.0 refused.0.1 (λ value offers. refused.2 offers.2 offers.3)
refused_asks_nothing line (fault.NoLetter why) refused other = is_letter line refused.0 refused.1 (λ l. no_letter refused.0 (fault.NoLetter why) l refused.2 other)
refused_asks_nothing line fault.OutOfMemory refused other = absurd (other refl)
refused_asks_nothing line fault.TooLong refused other = is_command line refused.0.0 refused.0.1 (λ value offers. too_long line refused.1 offers.1)

pub refusals_ask_nothing : {X : Type 0} (line : List ℕ) (r : Result X LineFault) → IfErr r (IsRefused line) → IfErr r (λ why. why ≢ fault.OutOfMemory → AsksNothing line)
refusals_ask_nothing line (Ok x) refused = tt
refusals_ask_nothing line (Err why) refused = refused_asks_nothing line why refused

same_value : (digits more : List ℕ) (v w : List ℕ) → digits ≡ more → decode_of digits ≡ Ok v → decode_of more ≡ Ok w → v ≡ w
same_value digits more v w same first second = cc

same_text : (digits more : List ℕ) (l m : Letter) → digits ≡ more → IsLetterText digits l → IsLetterText more m → l ≡ m
same_text digits more l m same first second =
    let bytes : first.bytes ≡ second.bytes = same_value digits more first.bytes second.bytes same first.decoded second.decoded in
    let spelled : spelling l ≡ spelling m = sym first.spells.1 ∙ bytes ∙ second.spells.1 in
    let read : letter_of (spelling l) ≡ letter_of (spelling m) = ap letter_of spelled in
    let one = read_again l first.spells.0 in
    let other = read_again m second.spells.0 in
    cc (one, other, read)

same_number : (digits more : List ℕ) (n k : ℕ) → digits ≡ more → IsNumberText digits n → IsNumberText more k → n ≡ k
same_number digits more n k same first second =
    sym first.value ∙ ap (λ (d : List ℕ). digits_value 10 (without_leading_plus d)) same ∙ second.value

same_telling : (words more : List ℕ) (to place other further : ℕ) → words ≡ more → IsTellText words to place → IsTellText more other further → request.Tell to place ≡ request.Tell other further
same_telling words more to place other further same first second =
    let is : (48 + to) ∷ 32 ∷ first.digits ≡ (48 + other) ∷ 32 ∷ second.digits = sym first.is ∙ same ∙ second.is in
    let node : to ≡ other = omega (arith, ap (λ (x : List ℕ). get_or x 0 0) is) in
    let digits : first.digits ≡ second.digits = cc is in
    let number = same_number first.digits second.digits place further digits first.number second.number in
    cc (node, number)

-- a line asks one thing at most
pub one_thing : (line : List ℕ) (r s : Request) → Asks line r → Asks line s → r ≡ s
one_thing line request.Lead s a b = sym (asked line (codes "lead") s a b)
one_thing line (request.Offer v) s (inl a) b =
    let (w, is, (more, at, decoded)) = asked line (offer_word ++ a.0) s a.1 b in
    ap (λ (x : List ℕ). request.Offer x) (same_value a.0 more v w (same_offer a.0 more (sym a.1 ∙ at)) a.2 decoded) ∙ sym is
one_thing line (request.Offer v) s (inr a) b =
    let (w, is, offers) = asked line (command_word ++ a.0.0) s a.0.1 b in
    ap (λ (x : List ℕ). request.Offer x) (a.4 ∙ ap command_spelling (one_text line a.2 offers.2 a.3 offers.3) ∙ sym offers.4) ∙ sym is
one_thing line (request.Release k) s a b =
    let (n, is, (more, at, number)) = asked line (release_word ++ a.0) s a.1 b in
    ap (λ (x : ℕ). request.Release x) (same_number a.0 more k n (same_release a.0 more (sym a.1 ∙ at)) a.2 number) ∙ sym is
one_thing line (request.Letter l) s a b =
    let (m, is, (more, at, text)) = asked line (letter_word ++ a.0) s a.1 b in
    ap (λ (x : Letter). request.Letter x) (same_text a.0 more l m (same_letter a.0 more (sym a.1 ∙ at)) a.2 text) ∙ sym is
one_thing line (request.Tell to place) s a b =
    let (other, further, is, (more, at, text)) = asked line (tell_word ++ a.0) s a.1 b in
    same_telling a.0 more to place other further (same_tell a.0 more (sym a.1 ∙ at)) a.2 text ∙ sym is
