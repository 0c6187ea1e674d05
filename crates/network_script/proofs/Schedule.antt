-- A run has one list of chosen values; nodes hold its beginnings, and what they release stands in its outputs.
use Rattle.std.proofs.Common.{◌≡◌, ℕ, List, [], ◌∷◌, ◌++◌, length, map, sym, ◌∙◌, ap, arith, subst, append-nil, Some}
use Rattle.std.proofs.Common.{slice_get}
use Rattle.std.proofs.lemmas.List.{map-append}
use Rattle.ballots.specs.Voting.{Entry, IsLegal}
use Rattle.grant_machine.specs.declared.output.Output.{Output}
use Rattle.grant_machine.specs.declared.output.Output.TheVariants.{Map}
use Rattle.grant_machine.specs.Runs.{outputs_from, rows_from}
use Rattle.grant_machine.proofs.Callers.{maps_are_disjoint}
use Rattle.command_log.specs.Reading.{command_of}
use Rattle.command_log.specs.Values.{outputs_of_values}
use Rattle.command_log.proofs.Callers.{outputs_append}
use Rattle.node.specs.View.{gapless}
use Rattle.node.specs.View.Standing.{Running}
use Rattle.map_release.specs.declared.numbered.Numbered.{Numbered}
use Rattle.world_events.specs.declared.event.Event.{Event}
use Rattle.seats.specs.declared.answer.Answer.{Answer}
use Rattle.map_body.proofs.Callers.{get_behind}
use Rattle.network_script.proofs.Lists.{get_left}
use Rattle.network_script.specs.World.{Written}
use Rattle.network_script.specs.Next.{Run}
use Rattle.network_script.specs.Headline.{OfEveryRun, WithSchedule, IsBeginning, IsSchedule, HasOneSchedule}
use Rattle.network_script.specs.Headline.{GaplessIsBeginning, ReleasedIsOutput, IsReleasedMap, MapsAreOne, CoversOnce}
use Rattle.network_script.proofs.Outputs.{StandsIn, chosen_beginning, learned_chosen, chosen_keeps}
use Rattle.network_script.proofs.Runs.{run_fine, passes_fine}
use Rattle.network_script.proofs.Existence.{schedule_exists}

-- the outputs of a list of values begin with those of its beginning
pub outputs_go_on : (values more : List (List ℕ)) → IsBeginning (outputs_of_values values) (outputs_of_values (values ++ more))
outputs_go_on values more = (
  outputs_from (rows_from [] (map command_of values)) (map command_of more),
  sym (outputs_append [] (map command_of values) (map command_of more)) ∙ ap (outputs_from []) (sym (map-append command_of values more)),
)

-- what stands in the outputs of a beginning stands in those of the whole
pub stands : (values c : List (List ℕ)) (x : Numbered) → IsBeginning values c → StandsIn (outputs_of_values values) x → StandsIn (outputs_of_values c) x
stands values c x begins there =
    let more = outputs_go_on values begins.0 in
    let whole : outputs_of_values values ++ more.0 ≡ outputs_of_values c = more.1 ∙ ap outputs_of_values begins.1 in
    (there.0, there.1, subst (λ (os : List Output). slice_get os there.0 ≡ Some x.output) whole (get_left (outputs_of_values values) more.0 there.0 x.output there.2))

-- two lists of the chosen values are one
one_list : (members : ℕ) (h : List Entry) (c d : List (List ℕ)) → IsLegal members h → IsSchedule members h c → IsSchedule members h d → d ≡ c
one_list members h c d legal is also = go (chosen_beginning members h d c legal also.chosen is)
  where
    go : IsBeginning d c → d ≡ c
    go ([], e) = sym (append-nil d) ∙ e
    go (y ∷ ys, e) = absurd (also.whole y (is.chosen (length d) y (subst (λ (l : List (List ℕ)). slice_get l (length d) ≡ Some y) e (get_behind d (y ∷ ys) 0 (length d) (omega arith)))))

pub one_schedule : OfEveryRun HasOneSchedule
one_schedule members ids script report w run =
    let c = schedule_exists members w.history in
    (c.0, c.1, λ d also. one_list members w.history c.0 d (run_fine members ids script report w run).inv.legal c.1 also)

pub gapless_is_beginning : OfEveryRun (WithSchedule GaplessIsBeginning)
gapless_is_beginning members ids script report w run c schedule mid passes k view here =
    let r = passes_fine members ids mid w passes in
    let learned = learned_chosen members mid.history view (r.0.inv.nodes k (Running view) here).learned in
    chosen_beginning members w.history (gapless view) c r.1.fine.inv.legal (chosen_keeps members mid.history w.history r.1.keeps (gapless view) learned) schedule

pub released_is_output : OfEveryRun (WithSchedule ReleasedIsOutput)
released_is_output members ids script report w run c schedule x here =
    let fine = run_fine members ids script report w run in
    let from = fine.outputs x here in
    stands from.0 c x.numbered (chosen_beginning members w.history from.0 c fine.inv.legal from.1 schedule) from.2

map_at : (members : ℕ) (ids : List ℕ) (script : List Event) (report : List Answer) (w : Written) → Run members ids script report w → (c : List (List ℕ)) → IsSchedule members w.history c → (ch start len : ℕ) (bytes : List ℕ) → IsReleasedMap w ch start len bytes
    → (i : ℕ) × (slice_get (outputs_of_values c) i ≡ Some (Map ch start len bytes))
map_at members ids script report w run c schedule ch start len bytes x =
    let r = released_is_output members ids script report w run c schedule x.0 x.1 in
    (r.0, r.2 ∙ ap (λ (o : Output). Some o) x.2)

same_bytes : (ch start len start' len' : ℕ) (bytes bytes' : List ℕ) (outputs : List Output) (i j : ℕ) → slice_get outputs i ≡ Some (Map ch start len bytes) → slice_get outputs j ≡ Some (Map ch start' len' bytes') → i ≡ j → bytes ≡ bytes'
same_bytes ch start len start' len' bytes bytes' outputs i j is also same =
    let e : Some (Map ch start len bytes) ≡ Some (Map ch start' len' bytes') = sym is ∙ ap (slice_get outputs) same ∙ also in cc (e)

pub maps_are_one : OfEveryRun MapsAreOne
maps_are_one members ids script report w run ch m start len start' len' bytes bytes' x y within within' =
    let c = schedule_exists members w.history in
    let a = map_at members ids script report w run c.0 c.1 ch start len bytes x in
    let b = map_at members ids script report w run c.0 c.1 ch start' len' bytes' y in
    same_bytes ch start len start' len' bytes bytes' (outputs_of_values c.0) a.0 b.0 a.1 b.1
    (maps_are_disjoint (map command_of c.0) a.0 b.0 ch m start len start' len' bytes bytes' a.1 b.1 within within')

pub covers_once : OfEveryRun (WithSchedule CoversOnce)
covers_once members ids script report w run c schedule i j ch m start len start' len' bytes bytes' a b within within' = maps_are_disjoint (map command_of c) i j ch m start len start' len' bytes bytes' a b within within'
