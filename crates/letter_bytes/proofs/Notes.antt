-- A note that is read is the note that was written, and what was written is read again; so for letters.
use Rattle.std.proofs.Common.{◌≡◌, ◌<◌, ℕ, cond, eqb, All, List, [], ◌∷◌, ◌++◌, length, Ok, Err, Result, refl, sym, ap}
use Rattle.std.proofs.Common.{subst, ◌∙◌, append_assoc, arith}
use Rattle.std.specs.Prelude.{IfOk, MatchResult}
use Rattle.std.specs.List.{flat_map}
use Rattle.std.proofs.lemmas.Bool.{eqb-true}
use Rattle.std.proofs.lemmas.List.{append-nil, nil_from_length}
use Rattle.std.proofs.lemmas.List.Elements.{All-from_recursion, recursion_from_All}
use Rattle.ballots.specs.declared.letters.Cast.{Cast}
use Rattle.ballots.specs.declared.letters.Letter.{Letter}
use Rattle.ballots.specs.declared.letters.Note.{Note}
use Rattle.ballots.specs.declared.letters.Note.TheVariants.{Prepare, Promise, Accept, Voted, Higher, Known}
use Rattle.letter_bytes.specs.declared.fault.LetterFault.{LetterFault}
use Rattle.letter_bytes.specs.declared.fault.LetterFault.TheVariants.{Trailing}
use Rattle.letter_bytes.specs.declared.kind.Kind.{Kind}
use Rattle.letter_bytes.specs.declared.kind.Kind.TheVariants as kinds
use Rattle.letter_bytes.specs.Spelling.{number, value_spelling, vote_spelling, kind_byte, kind_of, fields_spelling}
use Rattle.letter_bytes.specs.Spelling.{votes_reported, spelling, FitsFields, FitsLetter, FitsVote, IsCounted, IsNumber}
use Rattle.letter_bytes.specs.Spelling.{Spells, SpellsNone}
use Rattle.ballots.specs.Ballots.{IsBallot}
use Rattle.letter_bytes.specs.Reading.{◌>>=◌, AreBytes, Gives, Read, number_at, ballot_at, value_at, votes_in}
use Rattle.letter_bytes.specs.Reading.{promised_at, prepare_at, promise_at, valued_at, higher_at, known_at, kind_at}
use Rattle.letter_bytes.specs.Reading.{node_at, note_at, address_at, letter_of}
use Rattle.letter_bytes.proofs.Fields.{bind_ok, guard_met, ok_is, Begins, Begins-then, number_begins, number_again}
use Rattle.letter_bytes.proofs.Fields.{kind_begins, kind_again, node_begins, node_again, ballot_begins, ballot_again}
use Rattle.letter_bytes.proofs.Fields.{value_begins, value_again}
use Rattle.letter_bytes.proofs.Votes.{votes_begin, votes_again}

abbrev okay : {A : Type 0} → A → Read A
okay x = Ok x

abbrev Rows : Type 0
Rows = List (ℕ × Cast)

-- what follows the nodes of a letter
abbrev behind_nodes : Note → List ℕ
behind_nodes n = fields_spelling n ++ flat_map vote_spelling (votes_reported n)

-- a note of this kind begins the bytes
record BeginsNote (bytes : List ℕ) (kind : Kind) (x : Note × List ℕ) : Type 0 where
  begins : Begins bytes (behind_nodes x.0) x.1
  fits : FitsFields x.0
  votes : All FitsVote (votes_reported x.0)
  kind_is : kind_of x.0 ≡ kind

-- behind the fields of a note without votes there is nothing
fields_alone : (bytes fields rest : List ℕ) → Begins bytes fields rest → Begins bytes (fields ++ []) rest
fields_alone bytes fields rest begins = subst (λ (text : List ℕ). Begins bytes text rest) (sym (append-nil fields)) begins

no_votes : All FitsVote []
no_votes = All-from_recursion FitsVote [] tt

prepare_begins : (bytes : List ℕ) (x : Note × List ℕ) → AreBytes bytes → prepare_at bytes ≡ Ok x → BeginsNote bytes kinds.Prepare x
prepare_begins bytes x fits e =
    let b = bind_ok (ballot_at bytes) (λ b. number_at b.1 >>= λ p. Ok (Prepare b.0 p.0, p.1)) x e in
    let p = bind_ok (number_at b.0.1) (λ p. Ok (Prepare b.0.0 p.0, p.1)) x b.2 in
    let ballot = ballot_begins bytes b.0 fits b.1 in
    let place = number_begins b.0.1 p.0.0 p.0.1 ballot.0.rest_fits p.1 in
    let whole = Begins-then bytes (number b.0.0) b.0.1 (number p.0.0) p.0.1 ballot.0 place.0 in
    subst (BeginsNote bytes kinds.Prepare) (ok_is (Prepare b.0.0 p.0.0, p.0.1) x p.2)
    record { begins = fields_alone bytes _ p.0.1 whole; fits = (ballot.1, place.1); votes = no_votes; kind_is = refl }

prepare_again : (b p : ℕ) (rest : List ℕ) → FitsFields (Prepare b p) → prepare_at (behind_nodes (Prepare b p) ++ rest) ≡ Ok (Prepare b p, rest)
prepare_again b p rest fits =
    let regrouped : behind_nodes (Prepare b p) ++ rest ≡ number b ++ (number p ++ rest) = ap (λ (x : List ℕ). x ++ rest) (append-nil (number b ++ number p)) ∙ append_assoc (number b) (number p) rest in
    ap prepare_at regrouped ∙ rw (ballot_again b (number p ++ rest) fits.0, number_again p rest fits.1) refl

promise_begins : (bytes : List ℕ) (x : Note × List ℕ) → AreBytes bytes → promise_at bytes ≡ Ok x → BeginsNote bytes kinds.Promise x
unfolding promised_at
promise_begins bytes x fits e =
    let a = bind_ok (promised_at bytes) (λ a. votes_in a.0.2 a.1 >>= λ v. Ok (Promise a.0.0 a.0.1 v.0, v.1)) x e in
    let v = bind_ok (votes_in a.0.0.2 a.0.1) (λ v. Ok (Promise a.0.0.0 a.0.0.1 v.0, v.1)) x a.2 in
    let b = bind_ok (ballot_at bytes) (λ b. number_at b.1 >>= λ p. number_at p.1 >>= λ n. Ok ((b.0, p.0, n.0), n.1)) a.0 a.1 in
    let p = bind_ok (number_at b.0.1) (λ p. number_at p.1 >>= λ n. Ok ((b.0.0, p.0, n.0), n.1)) a.0 b.2 in
    let n = bind_ok (number_at p.0.1) (λ n. Ok ((b.0.0, p.0.0, n.0), n.1)) a.0 p.2 in
    let ballot = ballot_begins bytes b.0 fits b.1 in
    let place = number_begins b.0.1 p.0.0 p.0.1 ballot.0.rest_fits p.1 in
    let count = number_begins p.0.1 n.0.0 n.0.1 place.0.rest_fits n.1 in
    let behind = Begins-then b.0.1 (number p.0.0) p.0.1 (number n.0.0) n.0.1 place.0 count.0 in
    let promised = Begins-then bytes (number b.0.0) b.0.1 (number p.0.0 ++ number n.0.0) n.0.1 ballot.0 behind in
    let is = ok_is ((b.0.0, p.0.0, n.0.0), n.0.1) a.0 n.2 in
    let votes = votes_begin n.0.0 n.0.1 v.0 count.0.rest_fits (ap (λ (y : (ℕ × ℕ × ℕ) × List ℕ). votes_in y.0.2 y.1) is ∙ v.1) in
    let whole = Begins-then bytes (number b.0.0 ++ (number p.0.0 ++ number n.0.0)) n.0.1 (flat_map vote_spelling v.0.0) v.0.1 promised votes.0 in
    let counted : Begins bytes (behind_nodes (Promise b.0.0 p.0.0 v.0.0)) v.0.1 = subst (λ (k : ℕ). Begins bytes ((number b.0.0 ++ (number p.0.0 ++ number k)) ++ flat_map vote_spelling v.0.0) v.0.1) (sym votes.1) whole in
    let made : (Promise b.0.0 p.0.0 v.0.0, v.0.1) ≡ x = ok_is _ x (ap (λ (y : (ℕ × ℕ × ℕ) × List ℕ). okay (Promise y.0.0 y.0.1 v.0.0, v.0.1)) is ∙ v.2) in
    subst (BeginsNote bytes kinds.Promise) made
    record { begins = counted; fits = (ballot.1, place.1, omega (arith, count.1, votes.1)); votes = All-from_recursion FitsVote v.0.0 votes.2; kind_is = refl }

promise_again : (b p : ℕ) (votes : Rows) (rest : List ℕ) → FitsFields (Promise b p votes) → All FitsVote votes → promise_at (behind_nodes (Promise b p votes) ++ rest) ≡ Ok (Promise b p votes, rest)
unfolding promised_at
promise_again b p votes rest fits all =
    let votes_behind : List ℕ = flat_map vote_spelling votes ++ rest in
    let count : List ℕ = number (length votes) ++ votes_behind in
    let place : List ℕ = number p ++ count in
    let regrouped : behind_nodes (Promise b p votes) ++ rest ≡ number b ++ place = simp append_assoc in
    ap promise_at regrouped ∙ rw (ballot_again b place fits.0, number_again p count fits.1, number_again (length votes) votes_behind fits.2, votes_again votes rest (recursion_from_All FitsVote votes all)) refl

valued_begins : (kind : Kind) (note : ℕ → ℕ → List ℕ → Note) (bytes : List ℕ) (x : Note × List ℕ)
    → ((b p : ℕ) (v rest : List ℕ) → Begins bytes (number b ++ (number p ++ value_spelling v)) rest → IsBallot b → IsNumber p → IsCounted v → BeginsNote bytes kind (note b p v, rest))
    → AreBytes bytes → valued_at note bytes ≡ Ok x → BeginsNote bytes kind x
valued_begins kind note bytes x is fits e =
    let b = bind_ok (ballot_at bytes) (λ b. number_at b.1 >>= λ p. value_at p.1 >>= λ v. Ok (note b.0 p.0 v.0, v.1)) x e in
    let p = bind_ok (number_at b.0.1) (λ p. value_at p.1 >>= λ v. Ok (note b.0.0 p.0 v.0, v.1)) x b.2 in
    let v = bind_ok (value_at p.0.1) (λ v. Ok (note b.0.0 p.0.0 v.0, v.1)) x p.2 in
    let ballot = ballot_begins bytes b.0 fits b.1 in
    let place = number_begins b.0.1 p.0.0 p.0.1 ballot.0.rest_fits p.1 in
    let value = value_begins p.0.1 v.0.0 v.0.1 place.0.rest_fits v.1 in
    let behind = Begins-then b.0.1 (number p.0.0) p.0.1 (value_spelling v.0.0) v.0.1 place.0 value.0 in
    let whole = Begins-then bytes (number b.0.0) b.0.1 (number p.0.0 ++ value_spelling v.0.0) v.0.1 ballot.0 behind in
    subst (BeginsNote bytes kind) (ok_is (note b.0.0 p.0.0 v.0.0, v.0.1) x v.2) (is b.0.0 p.0.0 v.0.0 v.0.1 whole ballot.1 place.1 value.1)

valued_again : (note : ℕ → ℕ → List ℕ → Note) (b p : ℕ) (v rest : List ℕ) → IsBallot b → IsNumber p → IsCounted v → valued_at note (((number b ++ (number p ++ value_spelling v)) ++ []) ++ rest) ≡ Ok (note b p v, rest)
valued_again note b p v rest ballot place value =
    let behind : List ℕ = value_spelling v ++ rest in
    let regrouped : ((number b ++ (number p ++ value_spelling v)) ++ []) ++ rest ≡ number b ++ (number p ++ behind) =
    ap (λ (x : List ℕ). x ++ rest) (append-nil (number b ++ (number p ++ value_spelling v))) ∙ append_assoc (number b) (number p ++ value_spelling v) rest ∙ ap (λ (x : List ℕ). number b ++ x) (append_assoc (number p) (value_spelling v) rest) in
    ap (valued_at note) regrouped ∙ rw (ballot_again b (number p ++ behind) ballot, number_again p behind place, value_again v rest value) refl

accept_begins : (bytes : List ℕ) (x : Note × List ℕ) → AreBytes bytes → valued_at Accept bytes ≡ Ok x → BeginsNote bytes kinds.Accept x
accept_begins bytes x =
    valued_begins kinds.Accept Accept bytes x
    (λ b p v rest begins ballot place value. record { begins = fields_alone bytes _ rest begins; fits = (ballot, place, value); votes = no_votes; kind_is = refl })

voted_begins : (bytes : List ℕ) (x : Note × List ℕ) → AreBytes bytes → valued_at Voted bytes ≡ Ok x → BeginsNote bytes kinds.Voted x
voted_begins bytes x =
    valued_begins kinds.Voted Voted bytes x
    (λ b p v rest begins ballot place value. record { begins = fields_alone bytes _ rest begins; fits = (ballot, place, value); votes = no_votes; kind_is = refl })

higher_begins : (bytes : List ℕ) (x : Note × List ℕ) → AreBytes bytes → higher_at bytes ≡ Ok x → BeginsNote bytes kinds.Higher x
higher_begins bytes x fits e =
    let b = bind_ok (ballot_at bytes) (λ b. Ok (Higher b.0, b.1)) x e in
    let ballot = ballot_begins bytes b.0 fits b.1 in
    subst (BeginsNote bytes kinds.Higher) (ok_is (Higher b.0.0, b.0.1) x b.2)
    record { begins = fields_alone bytes _ b.0.1 ballot.0; fits = ballot.1; votes = no_votes; kind_is = refl }

higher_again : (b : ℕ) (rest : List ℕ) → IsBallot b → higher_at (behind_nodes (Higher b) ++ rest) ≡ Ok (Higher b, rest)
higher_again b rest fits = ap higher_at (ap (λ (x : List ℕ). x ++ rest) (append-nil (number b))) ∙ rw (ballot_again b rest fits) refl

known_begins : (bytes : List ℕ) (x : Note × List ℕ) → AreBytes bytes → known_at bytes ≡ Ok x → BeginsNote bytes kinds.Known x
known_begins bytes x fits e =
    let p = bind_ok (number_at bytes) (λ p. value_at p.1 >>= λ v. Ok (Known p.0 v.0, v.1)) x e in
    let v = bind_ok (value_at p.0.1) (λ v. Ok (Known p.0.0 v.0, v.1)) x p.2 in
    let place = number_begins bytes p.0.0 p.0.1 fits p.1 in
    let value = value_begins p.0.1 v.0.0 v.0.1 place.0.rest_fits v.1 in
    let whole = Begins-then bytes (number p.0.0) p.0.1 (value_spelling v.0.0) v.0.1 place.0 value.0 in
    subst (BeginsNote bytes kinds.Known) (ok_is (Known p.0.0 v.0.0, v.0.1) x v.2)
    record { begins = fields_alone bytes _ v.0.1 whole; fits = (place.1, value.1); votes = no_votes; kind_is = refl }

known_again : (p : ℕ) (v rest : List ℕ) → FitsFields (Known p v) → known_at (behind_nodes (Known p v) ++ rest) ≡ Ok (Known p v, rest)
known_again p v rest fits =
    let regrouped : behind_nodes (Known p v) ++ rest ≡ number p ++ (value_spelling v ++ rest) =
    ap (λ (x : List ℕ). x ++ rest) (append-nil (number p ++ value_spelling v)) ∙ append_assoc (number p) (value_spelling v) rest in
    ap known_at regrouped ∙ rw (number_again p (value_spelling v ++ rest) fits.0, value_again v rest fits.1) refl

note_begins : (kind : Kind) (bytes : List ℕ) (x : Note × List ℕ) → AreBytes bytes → note_at kind bytes ≡ Ok x → BeginsNote bytes kind x
note_begins kinds.Prepare bytes x fits e = prepare_begins bytes x fits e
note_begins kinds.Promise bytes x fits e = promise_begins bytes x fits e
note_begins kinds.Accept bytes x fits e = accept_begins bytes x fits e
note_begins kinds.Voted bytes x fits e = voted_begins bytes x fits e
note_begins kinds.Higher bytes x fits e = higher_begins bytes x fits e
note_begins kinds.Known bytes x fits e = known_begins bytes x fits e

note_again : (n : Note) (rest : List ℕ) → FitsFields n → All FitsVote (votes_reported n) → note_at (kind_of n) (behind_nodes n ++ rest) ≡ Ok (n, rest)
note_again (Prepare b p) rest fits votes = prepare_again b p rest fits
note_again (Promise b p reported) rest fits votes = promise_again b p reported rest fits votes
note_again (Accept b p v) rest fits votes = valued_again Accept b p v rest fits.0 fits.1 fits.2
note_again (Voted b p v) rest fits votes = valued_again Voted b p v rest fits.0 fits.1 fits.2
note_again (Higher b) rest fits votes = higher_again b rest fits
note_again (Known p v) rest fits votes = known_again p v rest fits

abbrev letter : ℕ → ℕ → Note → Letter
letter from to note = record { from = from; to = to; note = note }

abbrev ends : ℕ → ℕ → Note × List ℕ → Read Letter
ends from to note = cond (eqb (length note.1) 0) (Ok (letter from to note.0)) (Err Trailing)

-- the nodes of a letter and the bytes behind them, and its kind of note
record BeginsLetter (bytes : List ℕ) (address : (Kind × ℕ × ℕ) × List ℕ) : Type 0 where
  begins : Begins bytes (kind_byte address.0.0 ∷ address.0.1 ∷ address.0.2 ∷ []) address.1
  from : address.0.1 < 5
  to : address.0.2 < 5

address_begins : (bytes : List ℕ) (x : (Kind × ℕ × ℕ) × List ℕ) → AreBytes bytes → address_at bytes ≡ Ok x → BeginsLetter bytes x
address_begins bytes x fits e =
    let k = bind_ok (kind_at bytes) (λ k. node_at k.1 >>= λ f. node_at f.1 >>= λ t. Ok ((k.0, f.0, t.0), t.1)) x e in
    let f = bind_ok (node_at k.0.1) (λ f. node_at f.1 >>= λ t. Ok ((k.0.0, f.0, t.0), t.1)) x k.2 in
    let t = bind_ok (node_at f.0.1) (λ t. Ok ((k.0.0, f.0.0, t.0), t.1)) x f.2 in
    let kind = kind_begins bytes k.0 fits k.1 in
    let from = node_begins k.0.1 f.0 kind.rest_fits f.1 in
    let to = node_begins f.0.1 t.0 from.0.rest_fits t.1 in
    let nodes = Begins-then k.0.1 (f.0.0 ∷ []) f.0.1 (t.0.0 ∷ []) t.0.1 from.0 to.0 in
    let whole = Begins-then bytes (kind_byte k.0.0 ∷ []) k.0.1 (f.0.0 ∷ t.0.0 ∷ []) t.0.1 kind nodes in
    subst (BeginsLetter bytes) (ok_is ((k.0.0, f.0.0, t.0.0), t.0.1) x t.2) record { begins = whole; from = from.1; to = to.1 }

letter_spelled : (bytes : List ℕ) (l : Letter) → AreBytes bytes → letter_of bytes ≡ Ok l → Spells bytes l
unfolding letter_of
letter_spelled bytes l fits e =
    let a = bind_ok (address_at bytes) (λ a. note_at a.0.0 a.1 >>= λ note. ends a.0.1 a.0.2 note) l e in
    let n = bind_ok (note_at a.0.0.0 a.0.1) (λ note. ends a.0.0.1 a.0.0.2 note) l a.2 in
    let g = guard_met (eqb (length n.0.1) 0) Trailing (letter a.0.0.1 a.0.0.2 n.0.0) l n.2 in
    let address = address_begins bytes a.0 fits a.1 in
    let note = note_begins a.0.0.0 a.0.1 n.0 address.begins.rest_fits n.1 in
    let nothing : n.0.1 ≡ [] = nil_from_length n.0.1 (eqb-true _ _ g.0) in
    let tail : a.0.1 ≡ behind_nodes n.0.0 = note.begins.parts ∙ ap (λ (r : List ℕ). behind_nodes n.0.0 ++ r) nothing ∙ append-nil (behind_nodes n.0.0) in
    let parts : bytes ≡ kind_byte a.0.0.0 ∷ a.0.0.1 ∷ a.0.0.2 ∷ behind_nodes n.0.0 = address.begins.parts ∙ ap (λ (r : List ℕ). kind_byte a.0.0.0 ∷ a.0.0.1 ∷ a.0.0.2 ∷ r) tail in
    let is : bytes ≡ spelling (letter a.0.0.1 a.0.0.2 n.0.0) = parts ∙ ap (λ (k : Kind). kind_byte k ∷ a.0.0.1 ∷ a.0.0.2 ∷ behind_nodes n.0.0) (sym note.kind_is) in
    subst (Spells bytes) g.1 (record { front = record { from = address.from; to = address.to; fields = note.fits }; votes = note.votes }, is)

pub letter_again : (l : Letter) → FitsLetter l → letter_of (spelling l) ≡ Ok l
unfolding letter_of
letter_again l fits =
    let behind : List ℕ = behind_nodes l.note in
    let note : note_at (kind_of l.note) behind ≡ Ok (l.note, []) = ap (note_at (kind_of l.note)) (sym (append-nil behind)) ∙ note_again l.note [] fits.front.fields fits.votes in
    rw (kind_again (kind_of l.note) (l.from ∷ l.to ∷ behind), node_again l.from (l.to ∷ behind) fits.front.from, node_again l.to behind fits.front.to, note) refl

pub is_spelled : (lack : Type 0) (bytes : List ℕ) (r : Result Letter LetterFault) → AreBytes bytes → Gives lack r (letter_of bytes) → IfOk r (Spells bytes)
is_spelled lack bytes (Ok l) fits given = letter_spelled bytes l fits given
is_spelled lack bytes (Err e) fits given = tt

spells_none : (bytes : List ℕ) (f : LetterFault) → letter_of bytes ≡ Err f → SpellsNone bytes
spells_none bytes f none l spells =
    let read : letter_of bytes ≡ Ok l = ap letter_of spells.1 ∙ letter_again l spells.0 in
    absurd (cc (none, read))

pub reads_any : (bytes : List ℕ) → AreBytes bytes → MatchResult (letter_of bytes) (Spells bytes) (λ _. SpellsNone bytes)
reads_any bytes are =
    elim (letter_of bytes) as (λ r. letter_of bytes ≡ r → MatchResult r (Spells bytes) (λ _. SpellsNone bytes)) [
      | Ok l ↦ λ read. letter_spelled bytes l are read
      | Err f ↦ λ none. spells_none bytes f none
    ] refl
