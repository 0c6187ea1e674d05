use Rattle.std.proofs.Common.{◌≡◌, None, Option, Some, refl, subst}
use Rattle.acceptor.specs.declared.records.RecordsFault.{RecordsFault}
use Rattle.acceptor_store.specs.Batches.{HasMadeAll, MayHaveMadeAll}
use Rattle.kept_node.proofs.Noting.{still_noted, stored, unstored}
use Rattle.kept_node.proofs.noted.NotedWrites.store_waiting.Goals as goal

none_left : (ended : Option RecordsFault) → ((why : RecordsFault) → ended ≡ Some why → ⊥) → ended ≡ None
none_left None others = refl
none_left (Some why) others = absurd (others why refl)

pub returns-in-Err-clause-fails : goal.returns-in-Err-clause-fails
returns-in-Err-clause-fails g c content notes =
    let h = g.W.WriteStore in
    let old = c.args.self.now.store in
    let new = c.store_all.new.self in
    let ws = c.args.self.now.waiting.items in
    let noted = notes (none_left c.args.self.now.ended c.in_default.not-Some) in (
      λ harmless. still_noted h old new c.args.id ws content c.in-Err.ensures.honesty noted (λ honest. (c.in-Err.ensures.writes honest).harmless (c.lasting-self.ensures harmless)),
      unstored h old new c.args.id ws content c.in-Err.ensures.honesty noted c.in-Err.fault (λ honest. (c.in-Err.ensures.writes honest).harmless)
          (λ honest. subst (MayHaveMadeAll (h.may_find old) (h.may_find new) c.args.id) c.deref.ensures.value (c.in-Err.ensures.writes honest).doubt),
    )

pub returns-clause-stored : goal.returns-clause-stored
returns-clause-stored g c content notes goes =
    let h = g.W.WriteStore in
    let old = c.args.self.now.store in
    let new = c.store_all.new.self in
    stored h old new c.args.id c.args.self.now.waiting.items content c.in_default-store_all.ensures.honesty (notes goes) c.clear.new.self.items c.clear.ensures.items
    (λ honest. subst (HasMadeAll (h.may_find old) (h.may_find new) c.args.id) c.deref.ensures.value (c.in_default-store_all.ensures.writes honest).ok)
