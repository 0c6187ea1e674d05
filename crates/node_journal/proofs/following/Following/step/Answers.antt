use Rattle.std.proofs.Common.{◌≡◌, ◌<◌, ◌∙◌, ℕ, List, Some, length, get_or, slice_get, slice_set, sym, ap, subst, arith}
use Rattle.std.proofs.lemmas.Option.{slice_get-get_or}
use Rattle.ballots.specs.declared.letters.Letter.{Letter}
use Rattle.ballots.specs.declared.members.Members.{Members}
use Rattle.node_journal.specs.Following.{AreFollowed, HaveOrder, IsQuiet, Steps}
use Rattle.node_journal.specs.declared.follower.Follower.{Follower}
use Rattle.node_journal.specs.declared.follower.Step.{Step}
use Rattle.node_journal.proofs.Orders.{followed_step, order_after_did, order_after_quiet}
use Rattle.node_journal.proofs.following.Following.step.Goals as goal

-- the follower and the journal at a place
places : (members : Members) (journals : List (List ℕ)) (followers : List Follower) (k : ℕ) (f : Follower) (journal other : List ℕ) → AreFollowed members journals followers → k < length journals
    → f ≡ get_or followers k f → journal ≡ get_or journals k other → (slice_get followers k ≡ Some f) × (slice_get journals k ≡ Some journal)
places members journals followers k f journal other followed within f_is journal_is =
    let many : length followers ≡ length journals = followed.many ∙ sym followed.each in (
      slice_get-get_or followers k f (omega (arith, many, within)) ∙ ap (λ (x : Follower). Some x) (sym f_is),
      slice_get-get_or journals k other within ∙ ap (λ (x : List ℕ). Some x) (sym journal_is),
    )

-- after a step that sends no letters
quietly : (members : Members) (journals : List (List ℕ)) (followers : List Follower) (sent : List Letter) (k : ℕ) (f g : Follower) (journal other : List ℕ) (step : Step)
    → AreFollowed members journals followers → k < length journals → f ≡ get_or followers k f → journal ≡ get_or journals k other → IsQuiet step → Steps journal sent f step g → HaveOrder followers sent
    → AreFollowed members journals (slice_set followers k g) × HaveOrder (slice_set followers k g) sent
quietly members journals followers sent k f g journal other step followed within f_is journal_is quiet steps order =
    let at = places members journals followers k f journal other followed within f_is journal_is in
    (followed_step members journals followers sent k f g journal step at.0 at.1 steps followed, order_after_quiet followers sent k f g journal step at.0 quiet steps order)

pub returns-in_ok-add_all-in-Did-clause-reached : goal.returns-in_ok-add_all-in-Did-clause-reached
returns-in_ok-add_all-in-Did-clause-reached c =
    let x = c.args.self.now in
    let f = c.index_mut-follower.result.now in
    let at = places x.members c.args.journals.now x.followers.items c.args.k f _ _ c.requires.reached.followed c.requires.within c.index_mut-follower.ensures.value (c.as_slice-text.ensures ∙ c.index-journals-k.is) in
    record {
      followed = followed_step x.members c.args.journals.now x.followers.items x.sent c.args.k f c.step.new.self _ _ at.0 at.1 c.in_ok-letters.ensures c.requires.reached.followed;
      order = order_after_did x.followers.items x.sent c.add_all.new.self c.args.k f c.step.new.self _ _ c.in-Did.letters
          at.0 (c.requires.reached.followed.numbered c.args.k f at.0).0 c.in_ok-letters.ensures c.in-Did.is c.in_ok-add_all-in-Did.ensures c.requires.reached.order;
    }

pub returns-in-Moved-clause-reached : goal.returns-in-Moved-clause-reached
returns-in-Moved-clause-reached c =
    let after = quietly _ _ _ _ c.args.k _ _ _ _ _ c.requires.reached.followed c.requires.within c.index_mut-follower.ensures.value (c.as_slice-text.ensures ∙ c.index-journals-k.is)
    (subst IsQuiet (sym c.in-Moved.is) tt) c.in_ok-letters.ensures c.requires.reached.order in
    record { followed = after.0; order = after.1 }

pub returns-in-Waits-clause-reached : goal.returns-in-Waits-clause-reached
returns-in-Waits-clause-reached c =
    let after = quietly _ _ _ _ c.args.k _ _ _ _ _ c.requires.reached.followed c.requires.within c.index_mut-follower.ensures.value (c.as_slice-text.ensures ∙ c.index-journals-k.is)
    (subst IsQuiet (sym c.in-Waits.is) tt) c.in_ok-letters.ensures c.requires.reached.order in
    record { followed = after.0; order = after.1 }

pub returns-in-Ends-clause-reached : goal.returns-in-Ends-clause-reached
returns-in-Ends-clause-reached c =
    let after = quietly _ _ _ _ c.args.k _ _ _ _ _ c.requires.reached.followed c.requires.within c.index_mut-follower.ensures.value (c.as_slice-text.ensures ∙ c.index-journals-k.is)
    (subst IsQuiet (sym c.in-Ends.is) tt) c.in_ok-letters.ensures c.requires.reached.order in
    record { followed = after.0; order = after.1 }

pub returns-in-Torn-clause-reached : goal.returns-in-Torn-clause-reached
returns-in-Torn-clause-reached c =
    let after = quietly _ _ _ _ c.args.k _ _ _ _ _ c.requires.reached.followed c.requires.within c.index_mut-follower.ensures.value (c.as_slice-text.ensures ∙ c.index-journals-k.is)
    (subst IsQuiet (sym c.in-Torn.is) tt) c.in_ok-letters.ensures c.requires.reached.order in
    record { followed = after.0; order = after.1 }
