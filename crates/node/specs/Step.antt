-- What each call of a node does, by cases: the view after it, its one write and the letters that it sends, in order.
use Rattle.std.specs.Prelude.{◌≡◌, ◌⊎◌, ℕ, ◌+◌, ◌-◌, ◌<◌, ◌≤◌, max, Bool, true, ◌&&◌, not, if◌then◌else◌, ◌==◌, nat_eq}
use Rattle.std.specs.Prelude.{nat_lt, nat_le, List, [], ◌∷◌, ◌++◌, length, take, Option, Some, None, Result, Ok, Err}
use Rattle.std.specs.List.{list_any}
use Rattle.ballots.specs.Ballots.{ballot_node, IsLeastAbove, NoneAbove}
use Rattle.ballots.specs.Limits.{most_places, longest_value}
use Rattle.ballots.specs.Rows.{at, rows_from}
use Rattle.ballots.specs.declared.letters.Cast.{Cast}
use Rattle.ballots.specs.declared.letters.Note.{Note}
use Rattle.ballots.specs.declared.letters.Letter.{Letter}
use Rattle.ballots.specs.declared.letters.Note.TheVariants.{Prepare, Promise, Accept, Voted, Higher, Known}
use Rattle.acceptor.specs.Content.{Write, promised, after_write}
use Rattle.acceptor.specs.Content.Write.{Tries, Promises, Votes, Learns}
use Rattle.learner.specs.Tally.{is_majority, teaches, counts, learn}
pub use Rattle.proposer.specs.Letters.{letter, to_all, proposals}
use Rattle.proposer.specs.Joining.{join, place_after}
use Rattle.proposer.specs.Roles.{role_after}
use Rattle.proposer.specs.declared.role.Role.{Role}
use Rattle.proposer.specs.declared.role.Role.TheVariants.{Idle, Preparing, Leading}
use Rattle.proposer.specs.declared.fault.NodeFault.{NodeFault as Fault}
use Rattle.node.specs.View.{View, gapless}

-- a whole call: the view that it leaves, the write that it made and the letters that it sent
pub record Outcome : Type 0 where
  pub view : View
  pub write : Option Write
  pub letters : List Letter

-- nothing changed and nothing was sent
abbrev pub nothing : View → Outcome
nothing view = record { view = view; write = None; letters = [] }

-- letters alone
abbrev pub sends : View → List Letter → Outcome
sends view letters = record { view = view; write = None; letters = letters }

-- one write, and then letters
abbrev pub writes : View → Write → List Letter → Outcome
writes view write letters = record { view = record view { content = after_write view.content (Some write) }; write = Some write; letters = letters }

-- p is a place of the log
abbrev pub is_place : ℕ → Bool
is_place p = nat_lt 0 p && nat_le p most_places

abbrev pub is_value : List ℕ → Bool
is_value v = nat_le (length v) longest_value

-- votes by ascending place, one a place, none before the place, none above the last place or with too long a value,
-- each of a ballot below b
abbrev pub are_votes : ℕ → ℕ → List (ℕ × Cast) → Bool
are_votes b place [] = true
are_votes b place (vote ∷ votes) = nat_le place vote.0 && is_place vote.0 && is_value vote.1.value && nat_lt vote.1.ballot b && are_votes b (vote.0 + 1) votes

-- whether a node heeds what a letter says
abbrev pub is_sound : Letter → Note → Bool
is_sound l (Prepare b q) = is_place q && ballot_node b == l.from
is_sound l (Promise b q votes) = is_place q && ballot_node b == l.to && are_votes b q votes
is_sound l (Accept b p v) = is_place p && is_value v && ballot_node b == l.from
is_sound l (Voted b p v) = is_place p && is_value v
is_sound l (Higher b) = true
is_sound l (Known p v) = is_place p && is_value v

-- a letter is heeded by the member to which it goes, if it comes from one and is sound
abbrev pub is_heeded : ℕ → ℕ → Letter → Bool
is_heeded members me l = nat_lt l.from members && nat_lt l.to members && l.to == me && is_sound l l.note

-- a Known letter for each of the rows
abbrev pub known_letters : ℕ → ℕ → List (ℕ × List ℕ) → List Letter
known_letters me n [] = []
known_letters me n (row ∷ rows) = letter me n (Known row.0 row.1) ∷ known_letters me n rows

-- Known letters of the first 64 learned places from q on
abbrev pub first_known : ℕ → List (ℕ × List ℕ) → ℕ → ℕ → List Letter
first_known me learned n q = known_letters me n (take 64 (rows_from learned q))

-- a Prepare of ballot b for the places from q on, from node n
abbrev pub prepare : ℕ → View → ℕ → ℕ → ℕ → Outcome
prepare me view b q n =
    let told = first_known me view.tally.learned n q in
    if nat_lt (promised view.content) b
    then writes view (Promises b) (told ++ letter me n (Promise b q (rows_from view.content.votes q)) ∷ [])
    else sends view (told ++ letter me n (Higher (promised view.content)) ∷ [])

-- after one more promise was counted: a majority leads
abbrev pub after_promise : ℕ → ℕ → View → ℕ → ℕ → List ℕ → List (ℕ × Cast) → Outcome
after_promise members me view b q counted joined =
    if is_majority members (λ n. list_any (nat_eq n) counted)
    then sends (record view { role = Leading b (place_after q joined) }) (proposals members me b joined q (place_after q joined - q))
    else nothing (record view { role = Preparing b q counted joined })

-- a Promise of ballot b for the places from q on, from node n
abbrev pub promise : ℕ → ℕ → View → Role → ℕ → ℕ → List (ℕ × Cast) → ℕ → Outcome
promise members me view (Preparing c place counted joined) b q votes n =
    if b == c && q == place && not (list_any (nat_eq n) counted)
    then after_promise members me view b q (n ∷ counted) (join joined votes)
    else nothing view
promise members me view Idle b q votes n = nothing view
promise members me view (Leading c next) b q votes n = nothing view

-- a vote of ballot b for v at p, where the vote at p is known
abbrev pub vote_at : ℕ → ℕ → View → Option Cast → ℕ → ℕ → List ℕ → Outcome
vote_at members me view None b p v = writes view (Votes p record { ballot = b; value = v }) (to_all members me (Voted b p v))
vote_at members me view (Some cast) b p v =
    if cast.ballot == b then sends view (to_all members me (Voted b p cast.value))
    else writes view (Votes p record { ballot = b; value = v }) (to_all members me (Voted b p v))

-- an Accept of ballot b for v at p, from node n
abbrev pub accept : ℕ → ℕ → View → ℕ → ℕ → List ℕ → ℕ → Outcome
accept members me view b p v n =
    if nat_lt b (promised view.content) then sends view (letter me n (Higher (promised view.content)) ∷ [])
    else vote_at members me view (at view.content.votes p) b p v

-- v is learned at p: its row is written
abbrev pub learns : View → ℕ → List ℕ → Outcome
learns view p v = writes (record view { tally = learn view.tally p v }) (Learns p v) []

-- node n's vote of ballot b for v at p was heard, where p is learned or not: it teaches v, or is counted
abbrev pub voted : ℕ → View → Option (List ℕ) → ℕ → ℕ → List ℕ → ℕ → Outcome
voted members view there b p v n =
    if teaches members view.tally there b p v n then learns view p v
    else nothing (record view { tally = counts view.tally there b p v n })

-- v is known to be chosen at p, where p is learned or not
abbrev pub known : View → Option (List ℕ) → ℕ → List ℕ → Outcome
known view (Some value) p v = nothing view
known view None p v = learns view p v

-- a higher ballot was heard of
abbrev pub after_higher : View → ℕ → View
after_higher view b = record view { hint = max view.hint b; role = role_after view.role b }

-- what a node does with what a letter says
abbrev pub heed : ℕ → ℕ → View → ℕ → Note → Outcome
heed members me view from (Prepare b q) = prepare me view b q from
heed members me view from (Promise b q votes) = promise members me view view.role b q votes from
heed members me view from (Accept b p v) = accept members me view b p v from
heed members me view from (Voted b p v) = voted members view (at view.tally.learned p) b p v from
heed members me view from (Higher b) = nothing (after_higher view b)
heed members me view from (Known p v) = known view (at view.tally.learned p) p v

-- a letter that isn't heeded changes nothing
abbrev pub receive : ℕ → ℕ → View → Letter → Outcome
receive members me view l = if is_heeded members me l then heed members me view l.from l.note else nothing view

-- a value is offered
abbrev pub offer : ℕ → ℕ → View → Role → List ℕ → Result Outcome Fault
offer members me view (Leading b next) v =
    if nat_lt longest_value (length v) then Err Fault.ValueTooLong
    else if nat_lt most_places next then Err Fault.LogFull
    else Ok (sends (record view { role = Leading b (next + 1) }) (to_all members me (Accept b next v)))
offer members me view Idle v = Err Fault.NotLeading
offer members me view (Preparing b q counted joined) v = Err Fault.NotLeading

-- the letters that tell node n what is learned from place q on: none, if n is no member
abbrev pub letters_told : ℕ → ℕ → List (ℕ × List ℕ) → ℕ → ℕ → List Letter
letters_told members me learned n q = if nat_lt n members then first_known me learned n q else []

-- it tells node n what it has learned from place q on
abbrev pub tell : ℕ → ℕ → View → ℕ → ℕ → Outcome
tell members me view n q = sends view (letters_told members me view.tally.learned n q)

-- no ballot that the node has tried, promised or heard of is above this
abbrev pub limit : View → ℕ
limit view = max view.content.tried (max (promised view.content) view.hint)

-- the node tries ballot b for the places after its gapless prefix
abbrev pub lead_with : ℕ → ℕ → View → ℕ → Outcome
lead_with members me view b =
    let q = length (gapless view) + 1 in
    writes (record view { role = Preparing b q [] [] }) (Tries b) (to_all members me (Prepare b q))

-- the node is asked to lead: it tries its least ballot above the limit
abbrev pub Leads : ℕ → ℕ → View → Result Outcome Fault → Type 0
Leads members me view (Ok outcome) = (length (gapless view) < most_places) × ((b : ℕ) × IsLeastAbove (limit view) me b × (outcome ≡ lead_with members me view b))
Leads members me view (Err fault) =
    ((fault ≡ Fault.LogFull) × (most_places ≤ length (gapless view)))
    ⊎ ((fault ≡ Fault.RoundsSpent) × (length (gapless view) < most_places) × NoneAbove (limit view) me)
