-- What records kept of lines that were done together is what a host did.
use Rattle.std.proofs.Common.{◌≡◌, ◌≢◌, ◌⊎◌, inl, inr, ℕ, ◌+◌, ◌<◌, ◌≤◌, Bool, true, false, cond, eqb, leb, List, [], ◌∷◌, ◌++◌}
use Rattle.std.proofs.Common.{length, map, refl, sym, ap, subst, ◌∙◌, All}
use Rattle.std.proofs.lemmas.List.Elements.{All-head, All-tail}
use Rattle.std.proofs.lemmas.Bool.Decides.{eqb_tells}
use Rattle.acceptor.specs.Content.{Content}
use Rattle.hosts.specs.Beyond.{is_beyond}
use Rattle.hosts.specs.Views.{HostView, IsGone, IsNear, MovesIn, with_node}
use Rattle.hosts.specs.declared.acted.Given.{Given}
use Rattle.hosts.specs.declared.acted.Given.TheVariants.{Outputs, Failed}
use Rattle.hosts.specs.declared.acted.HostActed.{HostActed}
use Rattle.hosts.specs.declared.acted.HostActed.TheVariants.{Of, Ended, Ahead, Gone, OtherPlaces}
use Rattle.host_service.specs.Replying.{fault_reply, reply_of}
use Rattle.host_service.specs.Serving.{ActsAs, AloneAs, IsToldAt, IsUnasked, RepliesAs}
use Rattle.host_service.specs.declared.reply.HostReply.{HostReply}
use Rattle.host_service.specs.declared.reply.HostReply.TheVariants.{InEpoch, State, StateTooLong, AsNode}
use Rattle.host_service.specs.declared.reply.TheConstants.{LONGEST_STATE}
use Rattle.node.specs.View.{Standing}
use Rattle.node_lines.specs.declared.fault.LineFault.{LineFault}
use Rattle.proposer.specs.declared.fault.NodeFault.{NodeFault}
use Rattle.proposer.specs.declared.fault.NodeFault.TheVariants.{OutOfMemory}
use Rattle.seats.specs.Acted.{letters_of, outputs_of, told}
use Rattle.seats.specs.Acts.{GoesTo}
use Rattle.seats.specs.Moves.{Ask}
use Rattle.host_lives.specs.Batches.{AreDone, BeginningsAreLives, DoesSo, KeptLinesAreDone, KeptLinesAreLives}
use Rattle.host_lives.specs.Batches.{KeptLinesGoOn, MayWait, is_kept, kept_of}
use Rattle.host_lives.specs.Beginning.{AnyFault, Hold, LivesFrom}
use Rattle.host_lives.specs.Turns.{HostEvent, HostTurn}
use Rattle.host_lives.specs.Turns.HostEvent.{Replied, Began}
use Rattle.host_lives.proofs.Lists.{at_other}

-- a host stands as another, but for nodes: those of the epochs that are kept stand as that one's, the others as at v
record IsBeside (kept : ℕ → Bool) (v : HostView) (x u : HostView) : Type 0 where
  passed : u.passed ≡ x.passed
  own : u.own ≡ x.own
  cursor : u.cursor ≡ x.cursor
  first : u.first ≡ x.first
  here : (e : ℕ) → kept e ≡ true → u.nodes e ≡ x.nodes e
  there : (e : ℕ) → kept e ≡ false → u.nodes e ≡ v.nodes e

module _ (kept : ℕ → Bool) (v x u : HostView) (is : IsBeside kept v x u) where
  near_beside : (e : ℕ) → IsNear x e → IsNear u e
  near_beside e near = record {
    some = near.some;
    there = subst (λ (n : ℕ). n ≤ e) (sym is.first) near.there;
    low = subst (λ (cs : List (List (List ℕ))). length cs + 1 ≤ e + 1) (sym is.passed) near.low;
    high = subst (λ (cs : List (List (List ℕ))). e ≤ length cs + 1 + 1) (sym is.passed) near.high;
  }

  gone_beside : (e : ℕ) → IsGone x e → IsGone u e
  gone_beside e (inl below) = inl (subst (λ (n : ℕ). e < n) (sym is.first) below)
  gone_beside e (inr below) = inr (subst (λ (cs : List (List (List ℕ))). e + 1 < length cs + 1) (sym is.passed) below)

  -- with the same node of an epoch that is kept
  node_beside : (e : ℕ) (t : Standing) → kept e ≡ true → IsBeside kept v (with_node x e t) (with_node u e t)
  node_beside e t is_so = record {
    passed = is.passed;
    own = is.own;
    cursor = is.cursor;
    first = is.first;
    here = λ f yes_too. by f (λ other. is.here f yes_too);
    there = λ f isnt. at_other u.nodes e t f (λ same. (let clash : true ≡ false = sym is_so ∙ ap kept (sym same) ∙ isnt in cc (clash))) ∙ is.there f isnt;
  }
    where
      by : (f : ℕ) → (f ≢ e → u.nodes f ≡ x.nodes f) → cond (eqb f e) t (u.nodes f) ≡ cond (eqb f e) t (x.nodes f)
      by f else = choose (eqb_tells f e)
        where
          choose : ((eqb f e ≡ true) × (f ≡ e)) ⊎ ((eqb f e ≡ false) × (f ≢ e)) → cond (eqb f e) t (u.nodes f) ≡ cond (eqb f e) t (x.nodes f)
          choose (inl is_so) = ap (λ b. cond b t (u.nodes f)) is_so.0 ∙ sym (ap (λ b. cond b t (x.nodes f)) is_so.0)
          choose (inr isnt) = ap (λ b. cond b t (u.nodes f)) isnt.0 ∙ else isnt.1 ∙ sym (ap (λ b. cond b t (x.nodes f)) isnt.0)

  -- and where the node of one moved that isn't
  lost_beside : (e : ℕ) (t : Standing) → kept e ≡ false → IsBeside kept v (with_node x e t) u
  lost_beside e t isnt = record {
    passed = is.passed;
    own = is.own;
    cursor = is.cursor;
    first = is.first;
    here = λ f is_so. is.here f is_so ∙ sym (at_other x.nodes e t f (λ same. (let clash : true ≡ false = sym is_so ∙ ap kept same ∙ isnt in cc (clash))));
    there = is.there;
  }

  module _ (members me places e said : ℕ) (ask : Ask) where
    -- what was kept it does too
    moves_beside : (acted : HostActed) (x' : HostView) → kept e ≡ true → MovesIn members me places x e said ask acted x' → (u' : HostView) × MovesIn members me places u e said ask acted u' × IsBeside kept v x' u'
    moves_beside (Of acted) x' is_so (as_many, near, within, (t, goes, moved)) =
        let same : x.nodes e ≡ u.nodes e = sym (is.here e is_so) in (
          with_node u e t,
          (
            as_many,
            near_beside e near,
            subst (λ (s : Standing). is_beyond places s ask ≡ false) same within,
            (t, subst (λ (s : Standing). GoesTo members me s ask (told acted) (letters_of acted) (outputs_of acted) (λ y. y ≡ t)) same goes, refl),
          ),
          subst (λ (y : HostView). IsBeside kept v y (with_node u e t)) (sym moved) (node_beside e t is_so),
        )
    moves_beside Ended x' is_so (as_many, near, beyond, same) = (
      u,
      (as_many, near_beside e near, subst (λ (s : Standing). is_beyond places s ask ≡ true) (sym (is.here e is_so)) beyond, refl),
      subst (λ (y : HostView). IsBeside kept v y u) (sym same) is,
    )
    moves_beside Ahead x' is_so (as_many, far, same) = (
      u,
      (as_many, subst (λ (cs : List (List (List ℕ))). length cs + 1 + 1 < e) (sym is.passed) far, refl),
      subst (λ (y : HostView). IsBeside kept v y u) (sym same) is,
    )
    moves_beside Gone x' is_so (as_many, gone, same) = (u, (as_many, gone_beside e gone, refl), subst (λ (y : HostView). IsBeside kept v y u) (sym same) is)
    moves_beside OtherPlaces x' is_so (other, same) = (u, (other, refl), subst (λ (y : HostView). IsBeside kept v y u) (sym same) is)

    -- and what wasn't leaves it as it is
    lost_moves : (acted : HostActed) (x' : HostView) → kept e ≡ false → MovesIn members me places x e said ask acted x' → IsBeside kept v x' u
    lost_moves (Of acted) x' isnt (as_many, near, within, (t, goes, moved)) = subst (λ (y : HostView). IsBeside kept v y u) (sym moved) (lost_beside e t isnt)
    lost_moves Ended x' isnt (as_many, near, beyond, same) = subst (λ (y : HostView). IsBeside kept v y u) (sym same) is
    lost_moves Ahead x' isnt (as_many, far, same) = subst (λ (y : HostView). IsBeside kept v y u) (sym same) is
    lost_moves Gone x' isnt (as_many, gone, same) = subst (λ (y : HostView). IsBeside kept v y u) (sym same) is
    lost_moves OtherPlaces x' isnt (other, same) = subst (λ (y : HostView). IsBeside kept v y u) (sym same) is

  unasked_beside : (places : ℕ) (line : List ℕ) (why : LineFault) → IsUnasked places x line why → IsUnasked places u line why
  unasked_beside places line why (inl dropped) = inl dropped
  unasked_beside places line why (inr (inl (n, rest, numbered, as_many, near, asks))) = inr (inl (n, rest, numbered, as_many, near_beside n.epoch near, asks))
  unasked_beside places line why (inr (inr alone)) = inr (inr alone)

-- one line, kept or not, and then others
module _ (members me places : ℕ) (kept : ℕ → Bool) (v : HostView) where
  -- where the other comes by lines, it comes by those that are kept
  abbrev Follows : List HostTurn → HostView → HostView → Type 0
  Follows batch u v' = (u' : HostView) × AreDone members me places u (kept_of kept batch) u' × IsBeside kept v v' u'

  kept_first : (t : HostTurn) (batch : List HostTurn) (u mid v' : HostView) → is_kept kept t.reply ≡ true → DoesSo members me places u t mid → Follows batch mid v' → Follows (t ∷ batch) u v'
  kept_first t batch u mid v' is_so does (u', done, is) = (
    u',
    subst (λ b. AreDone members me places u (cond b (t ∷ kept_of kept batch) (kept_of kept batch)) u') (sym is_so) (mid, does, done),
    is,
  )

  lost_first : (t : HostTurn) (batch : List HostTurn) (u v' : HostView) → is_kept kept t.reply ≡ false → Follows batch u v' → Follows (t ∷ batch) u v'
  lost_first t batch u v' isnt (u', done, is) = (
    u',
    subst (λ b. AreDone members me places u (cond b (t ∷ kept_of kept batch) (kept_of kept batch)) u') (sym isnt) done,
    is,
  )

  -- a line with a number, and then others, whose rest is done from wherever it comes
  acts_first : (t : HostTurn) (batch : List HostTurn) (x u mid v' : HostView) → IsBeside kept v x u → (acts : ActsAs members me places x t.line t.reply mid)
      → ((u' : HostView) → IsBeside kept v mid u' → Follows batch u' v') → (b : Bool) → kept acts.number.epoch ≡ b → Follows (t ∷ batch) u v'
  acts_first t batch x u mid v' is acts rest true is_so =
      let moved = moves_beside kept v x u is members me places acts.number.epoch acts.number.places acts.ask acts.acted mid is_so acts.moves in
      kept_first t batch u moved.0 v' (ap (is_kept kept) acts.told ∙ is_so)
      (inl (record { number = acts.number; rest = acts.rest; ask = acts.ask; acted = acts.acted; numbered = acts.numbered; behind = acts.behind; moves = moved.1; told = acts.told }))
      (rest moved.0 moved.2)
  acts_first t batch x u mid v' is acts rest false isnt =
      lost_first t batch u v' (ap (is_kept kept) acts.told ∙ isnt)
      (rest u (lost_moves kept v x u is members me places acts.number.epoch acts.number.places acts.ask acts.acted mid isnt acts.moves))

  follows : (batch : List HostTurn) (x u v' : HostView) → IsBeside kept v x u → AreDone members me places x batch v' → Follows batch u v'
  follows [] x u v' is same = (u, refl, subst (λ (y : HostView). IsBeside kept v y u) (sym same) is)
  follows (t ∷ batch) x u v' is (mid, inl acts, rest) =
      acts_first t batch x u mid v' is acts (λ u' beside. follows batch mid u' v' beside rest) (kept acts.number.epoch) refl
  follows (t ∷ batch) x u v' is (mid, inr away, rest) =
      kept_first t batch u u v' (ap (is_kept kept) away.told) (inr (record { why = away.why; unasked = unasked_beside kept v x u is places t.line away.why away.unasked; told = away.told; same = refl }))
      (follows batch mid u v' (subst (λ (y : HostView). IsBeside kept v y u) (sym away.same) is) rest)

-- lines with a number change nodes alone
module _ (members me places : ℕ) where
  stays_rest : (t : HostTurn) (x x' : HostView) → DoesSo members me places x t x' → (x'.passed ≡ x.passed) × (x'.own ≡ x.own) × (x'.cursor ≡ x.cursor) × (x'.first ≡ x.first)
  stays_rest t x x' (inr away) = (ap (λ (y : HostView). y.passed) away.same, ap (λ (y : HostView). y.own) away.same, ap (λ (y : HostView). y.cursor) away.same, ap (λ (y : HostView). y.first) away.same)
  stays_rest t x x' (inl acts) = by acts.acted acts.moves
    where
      same_rest : (y : HostView) → x' ≡ y → (y.passed ≡ x.passed) × (y.own ≡ x.own) × (y.cursor ≡ x.cursor) × (y.first ≡ x.first)
          → (x'.passed ≡ x.passed) × (x'.own ≡ x.own) × (x'.cursor ≡ x.cursor) × (x'.first ≡ x.first)
      same_rest y is of_it = subst (λ (z : HostView). (z.passed ≡ x.passed) × (z.own ≡ x.own) × (z.cursor ≡ x.cursor) × (z.first ≡ x.first)) (sym is) of_it

      by : (acted : HostActed) → MovesIn members me places x acts.number.epoch acts.number.places acts.ask acted x' → (x'.passed ≡ x.passed) × (x'.own ≡ x.own) × (x'.cursor ≡ x.cursor) × (x'.first ≡ x.first)
      by (Of acted) (as_many, near, within, (s, goes, moved)) = same_rest (with_node x acts.number.epoch s) moved (refl, refl, refl, refl)
      by Ended (as_many, near, beyond, same) = same_rest x same (refl, refl, refl, refl)
      by Ahead (as_many, far, same) = same_rest x same (refl, refl, refl, refl)
      by Gone (as_many, gone, same) = same_rest x same (refl, refl, refl, refl)
      by OtherPlaces (other, same) = same_rest x same (refl, refl, refl, refl)

  rest_stays : (batch : List HostTurn) (x x' : HostView) → AreDone members me places x batch x' → (x'.passed ≡ x.passed) × (x'.own ≡ x.own) × (x'.cursor ≡ x.cursor) × (x'.first ≡ x.first)
  rest_stays [] x x' same = (ap (λ (y : HostView). y.passed) same, ap (λ (y : HostView). y.own) same, ap (λ (y : HostView). y.cursor) same, ap (λ (y : HostView). y.first) same)
  rest_stays (t ∷ batch) x x' (mid, does, rest) =
      let one = stays_rest t x mid does in
      let all = rest_stays batch mid x' rest in
      (all.0 ∙ one.0, all.1 ∙ one.1, all.2 ∙ one.2, all.3 ∙ one.3)

pub kept_lines : KeptLinesAreDone
kept_lines members me places v v' batch kept done =
    let begins : IsBeside kept v v v = record { passed = refl; own = refl; cursor = refl; first = refl; here = λ e is_so. refl; there = λ e isnt. refl } in
    let ends = follows members me places kept v batch v v v' begins done in
    let u : HostView = ends.0 in
    let is : IsBeside kept v v' u = ends.2 in
    let same = rest_stays members me places batch v v' done in (
      u,
      ends.1,
      record {
        passed = (same.0, is.passed ∙ same.0);
        own = (same.1, is.own ∙ same.1);
        cursor = (same.2, is.cursor ∙ same.2);
        first = (same.3, is.first ∙ same.3);
        nodes = λ e. by (kept e) (u.nodes e) (v'.nodes e) (v.nodes e) (is.here e) (is.there e);
      },
    )
  where
    by : (b : Bool) (s t r : Standing) → (b ≡ true → s ≡ t) → (b ≡ false → s ≡ r) → s ≡ cond b t r
    by true s t r here there = here refl
    by false s t r here there = there refl

-- ---- lives that end with such lines

module _ (members me places : ℕ) (contents : ℕ → Content) where
  -- isnt state is gone to at such a line
  no_past : (line : List ℕ) (replied : HostReply) → MayWait replied → IsToldAt members places line replied
  no_past line (InEpoch n acted) waits = λ bytes epoch gives is. absurd (cc (is))
  no_past line (AsNode told) waits = λ bytes epoch gives is. absurd (cc (is))
  no_past line other waits = absurd waits

  -- and what came is what a number asked, or nothing
  no_release : (given : Given) → ¬ MayWait (reply_of places given)
  no_release (Outputs outputs epoch place) none = none
  no_release (Failed why) (other, is) = cc (is)

  no_fault : (why : NodeFault) → ¬ MayWait (fault_reply why)
  no_fault why (other, is) = cc (is)

  no_state : (bytes : List ℕ) (b : Bool) → ¬ MayWait (cond b (State bytes) StateTooLong)
  no_state bytes true none = none
  no_state bytes false none = none

  no_alone : (t : HostTurn) (x x' : HostView) (past : IsToldAt members places t.line t.reply) → MayWait t.reply → ¬ AloneAs (Hold contents) AnyFault members me places x t.line t.reply past x'
  no_alone t x x' past waits (inl asked) = elim asked.told [
    | inl said ↦ no_state said.0 (leb (length said.0) LONGEST_STATE) (subst MayWait said.2 waits)
    | inr lacks ↦ no_fault OutOfMemory (subst MayWait lacks waits)
  ]
  no_alone t x x' past waits (inr (inl asked)) = elim asked.told [
    | inl said ↦ subst MayWait said.2 waits
    | inr lacks ↦ no_fault OutOfMemory (subst MayWait lacks waits)
  ]
  no_alone t x x' past waits (inr (inr (inl goes))) = subst MayWait goes.told waits
  no_alone t x x' past waits (inr (inr (inr stays))) = elim stays.told [
    | inl none ↦ subst MayWait none waits
    | inr fails ↦ no_fault fails.0 (subst MayWait fails.2 waits)
  ]

  does_so : (t : HostTurn) (x x' : HostView) (past : IsToldAt members places t.line t.reply) → MayWait t.reply → RepliesAs (Hold contents) AnyFault members me places x t.line t.reply past x' → DoesSo members me places x t x'
  does_so t x x' past waits (inl acts) = inl acts
  does_so t x x' past waits (inr (inl releases)) = absurd (no_release releases.given (subst MayWait releases.told waits))
  does_so t x x' past waits (inr (inr (inl alone))) = absurd (no_alone t x x' past waits alone)
  does_so t x x' past waits (inr (inr (inr away))) = inr away

  done_by : (batch : List HostTurn) (x : HostView) → All (λ t. MayWait t.reply) batch → LivesFrom members me places contents x (map (λ t. Replied t) batch) → (x' : HostView) × AreDone members me places x batch x'
  done_by [] x waits lives = (x, refl)
  done_by (t ∷ batch) x waits lives =
      let may : MayWait t.reply = All-head (λ (y : HostTurn). MayWait y.reply) t batch waits in
      let past = no_past t.line t.reply may in
      let one = lives past in
      let rest = done_by batch one.0 (All-tail (λ (y : HostTurn). MayWait y.reply) t batch waits) one.2 in
      (rest.0, (one.0, does_so t x one.0 past may one.1, rest.1))

  lives_by : (batch : List HostTurn) (x x' : HostView) → AreDone members me places x batch x' → LivesFrom members me places contents x (map (λ t. Replied t) batch)
  lives_by [] x x' same = tt
  lives_by (t ∷ batch) x x' (mid, inl acts, rest) = λ past. (mid, inl acts, lives_by batch mid x' rest)
  lives_by (t ∷ batch) x x' (mid, inr away, rest) = λ past. (mid, inr (inr (inr away)), lives_by batch mid x' rest)

pub kept_lives : KeptLinesAreLives
kept_lives members me places contents v [] batch kept waits lives =
    let done = done_by members me places contents batch v waits lives in
    let kept_so = kept_lines members me places v done.0 batch kept done.1 in
    lives_by members me places contents (kept_of kept batch) v kept_so.0 kept_so.1
kept_lives members me places contents v (Replied t ∷ happened) batch kept waits lives = λ past.
    let one = lives past in
    (one.0, one.1, kept_lives members me places contents one.0 happened batch kept waits one.2)
kept_lives members me places contents v (Began k given ∷ happened) batch kept waits lives = λ past.
    let one = lives past in
    (one.0, one.1, kept_lives members me places one.0.contents _ happened batch kept waits one.2)

-- lines that were done, and lives behind them
lives_behind : (members me places : ℕ) (contents : ℕ → Content) (batch : List HostTurn) (later : List HostEvent) (x x' : HostView) → AreDone members me places x batch x'
    → LivesFrom members me places contents x' later → LivesFrom members me places contents x (map (λ t. Replied t) batch ++ later)
lives_behind members me places contents [] later x x' same lives = subst (λ (y : HostView). LivesFrom members me places contents y later) same lives
lives_behind members me places contents (t ∷ batch) later x x' (mid, inl acts, rest) lives = λ past. (mid, inl acts, lives_behind members me places contents batch later mid x' rest lives)
lives_behind members me places contents (t ∷ batch) later x x' (mid, inr away, rest) lives =
    λ past. (mid, inr (inr (inr away)), lives_behind members me places contents batch later mid x' rest lives)

pub kept_go_on : KeptLinesGoOn
kept_go_on members me places contents v [] later batch kept goes =
    let kept_so = kept_lines members me places v goes.came batch kept goes.done in
    lives_behind members me places contents (kept_of kept batch) later v kept_so.0 kept_so.1 (goes.lives kept_so.0 kept_so.2)
kept_go_on members me places contents v (Replied t ∷ happened) later batch kept goes = λ past.
    let one = goes past in (one.0, one.1, kept_go_on members me places contents one.0 happened later batch kept one.2)
kept_go_on members me places contents v (Began k given ∷ happened) later batch kept goes = λ past.
    let one = goes past in (one.0, one.1, kept_go_on members me places one.0.contents _ happened later batch kept one.2)

pub beginnings : BeginningsAreLives
beginnings members me places contents v [] later lives = tt
beginnings members me places contents v (Replied t ∷ happened) later lives = λ past.
    let one = lives past in (one.0, one.1, beginnings members me places contents one.0 happened later one.2)
beginnings members me places contents v (Began k given ∷ happened) later lives = λ past.
    let one = lives past in (one.0, one.1, beginnings members me places one.0.contents _ happened later one.2)
