-- What waits leads from what a store holds to what the node has in memory.
use Rattle.std.proofs.Common.{◌≡◌, inl, ℕ, ◌==◌, List, [], ◌∷◌, ◌++◌, Bool, true, false, None, Result, Ok, Err, refl, sym, subst, ◌∙◌}
use Rattle.std.proofs.Common.{IfErr, IsTrue, OnOk, if◌then◌else◌}
use Rattle.std.proofs.Math.Logic.{∥∥₁_elim, ∥∥₁_map}
use Rattle.std.proofs.lemmas.Bool.{eqb-true}
use Rattle.acceptor.specs.Content.{AreRowsFrom, Content, after_write}
use Rattle.acceptor.specs.Faults.{IsHarmless}
use Rattle.acceptor.specs.Kept.{is_it}
use Rattle.acceptor.specs.Found.{Findable, FindsSame, Holds, HoldsEither}
use Rattle.acceptor.specs.declared.records.RecordsFault.{RecordsFault}
use Rattle.acceptor.specs.declared.records.RecordsFault.TheVariants.{Refused, Broken, OutOfMemory}
use Rattle.acceptor.proofs.Callers.{still_holds}
use Rattle.acceptor_store.specs.Batches.{HasMadeAll, MayHaveMadeAll}
use Rattle.node.specs.Sched.{Stands}
use Rattle.node.specs.View.{View}
use Rattle.node.specs.View.Standing.{Running}
use Rattle.node.specs.declared.parts.Parts.{Parts}
use Rattle.node_writes.specs.Writes.{LeadTo}
use Rattle.node_writes.specs.declared.write_bytes.WriteBytes.{WriteBytes}
use Rattle.node_writes.proofs.Callers.{lead_once}
use Rattle.told_writes.proofs.Callers.{lead_rows}
use Rattle.kept_node.proofs.Calling.{who, writes_none}
use Rattle.kept_node.proofs.Once.{Holds_prop, holds_once, told_apart}
use Rattle.kept_node.specs.Noted.{FailsToStore, HasKept, IsKept, IsLeftBy, IsNoted, NotesTo}
use Rattle.kept_node.specs.declared.noted.NotedWrites.{NotedWrites}
use Rattle.kept_node.specs.declared.store.WriteStore.{Ghosts as Stores}

-- writes, and then others
lead_then : (id : ℕ) (rs later : List WriteBytes) (c mid last : Content) → LeadTo id rs c mid → LeadTo id later mid last → LeadTo id (rs ++ later) c last
lead_then id [] later c mid last led more = subst (λ (x : Content). LeadTo id later x last) led more
lead_then id (r ∷ rs) later c mid last led more = (led.0, led.1, lead_then id rs later (after_write c led.0) mid last led.2 more)

-- one that is a write waits behind the others
pub lead_more : (id : ℕ) (rs : List WriteBytes) (r : WriteBytes) (c mid last : Content) → LeadTo id rs c mid → LeadTo id (r ∷ []) mid last
    → LeadTo id (if r.kind == 0 then rs else rs ++ r ∷ []) c last
lead_more id rs r c mid last led one = by_kind (r.kind == 0) refl
  where
    by_kind : (is_none : Bool) → is_none ≡ (r.kind == 0) → LeadTo id (if is_none then rs else rs ++ r ∷ []) c last
    by_kind true is = subst (LeadTo id rs c) (sym (writes_none r one.0 mid one.1.2 (eqb-true r.kind 0 (sym is))) ∙ sym one.2) led
    by_kind false is = lead_then id rs (r ∷ []) c mid last led one

-- what is held is left by any fault
held_so : (why : RecordsFault) (found : Findable) (base c : Content) → Holds found base → IsLeftBy why found base c
held_so Refused found base c holds = holds
held_so OutOfMemory found base c holds = holds
held_so Broken found base c holds = λ d is. inl (holds.1 d is)

module _ {W : Type 0} (h : Stores W) where
  -- where nothing waits the store holds what the node has
  pub kept_then : (store : W) (id : ℕ) (ws : List WriteBytes) (c : Content) → ws ≡ [] → IsNoted h store id ws c → IsKept h store c
  kept_then store id ws c none noted honest =
      ∥∥₁_elim (noted honest) (Holds_prop (h.may_find store) c) (λ base.
      let same : c ≡ base.0 = subst (λ (rs : List WriteBytes). LeadTo id rs base.0 c) none base.1.leads in
      subst (Holds (h.may_find store)) (sym same) base.1.holds)

  pub still_notes : (noted : NotedWrites W) (id later : ℕ) (c d : Content) → later ≡ id → d ≡ c → NotesTo h noted id c → NotesTo h noted later d
  still_notes noted id later c d me same notes = subst (λ (n : ℕ). NotesTo h noted n d) (sym me) (subst (NotesTo h noted id) (sym same) notes)

  -- what waits leads on, with one write more
  pub noted_on : (store : W) (r : WriteBytes) (id : ℕ) (ws : List WriteBytes) (c d : Content) → (AreRowsFrom 1 c.votes → LeadTo id (r ∷ []) c d) → IsNoted h store id ws c
      → IsNoted h store id (if r.kind == 0 then ws else ws ++ r ∷ []) d
  noted_on store r id ws c d one noted honest =
      ∥∥₁_map (noted honest) (λ base.
      let ordered = lead_rows id ws base.0 c base.1.leads base.1.ordered in
      (base.0, record { holds = base.1.holds; ordered = base.1.ordered; leads = lead_more id ws r base.0 c d base.1.leads (one ordered) }))

  pub notes_on : (old new : NotedWrites W) (r : WriteBytes) (id later : ℕ) (c d : Content) → new.store ≡ old.store
      → (new.ended ≡ None → new.waiting.items ≡ (if r.kind == 0 then old.waiting.items else old.waiting.items ++ r ∷ [])) → (new.ended ≡ None → old.ended ≡ None) → later ≡ id
      → (AreRowsFrom 1 c.votes → LeadTo id (r ∷ []) c d) → NotesTo h old id c → NotesTo h new later d
  notes_on old new r id later c d store items ended me one notes going =
      subst (λ (n : ℕ). IsNoted h new.store n new.waiting.items d) (sym me)
      (subst (λ (ws : List WriteBytes). IsNoted h new.store id ws d) (sym (items going))
      (subst (λ (s : W). IsNoted h s id (if r.kind == 0 then old.waiting.items else old.waiting.items ++ r ∷ []) d) (sym store)
      (noted_on old.store r id old.waiting.items c d one (notes (ended going)))))

  module _ (old new : W) (id : ℕ) (ws : List WriteBytes) (c : Content) (trust : IsTrue (h.honest new) → IsTrue (h.honest old)) (noted : IsNoted h old id ws c) where
    -- what was stored is what the node has, and none waits
    pub stored : (later : List WriteBytes) → later ≡ [] → (IsTrue (h.honest new) → HasMadeAll (h.may_find old) (h.may_find new) id ws) → IsNoted h new id later c
    stored later none made honest =
        ∥∥₁_map (noted (trust honest)) (λ base.
        let there = made honest base.0 base.1.holds in
        let same : there.0 ≡ c = lead_once id ws base.0 there.0 c there.1 base.1.leads in (
          c,
          record {
            holds = subst (Holds (h.may_find new)) same there.2;
            ordered = lead_rows id ws base.0 c base.1.leads base.1.ordered;
            leads = subst (λ (rs : List WriteBytes). LeadTo id rs c c) (sym none) refl;
          },
        ))

    -- what changed nothing lets all wait still
    pub still_noted : (IsTrue (h.honest new) → FindsSame (h.may_find old) (h.may_find new)) → IsNoted h new id ws c
    still_noted same honest =
        ∥∥₁_map (noted (trust honest)) (λ base.
        (base.0, record { holds = still_holds (h.may_find old) (h.may_find new) base.0 (same honest) base.1.holds; ordered = base.1.ordered; leads = base.1.leads }))

    -- what may have been stored is what was held or what the node has
    either_held : (IsTrue (h.honest new) → MayHaveMadeAll (h.may_find old) (h.may_find new) id ws) → IsTrue (h.honest new) → (base : Content) → Holds (h.may_find old) base
        → HoldsEither (h.may_find new) base c
    either_held doubt honest base holds d found =
        told_apart base c d (∥∥₁_map (noted (trust honest)) (λ from.
        let same : from.0 ≡ base = holds_once (h.may_find old) from.0 base from.1.holds holds in
        doubt honest base c holds (subst (λ (x : Content). LeadTo id ws x c) same from.1.leads) d found))

    -- what wasn't stored is left by its fault
    left_by : (why : RecordsFault) → (IsTrue (h.honest new) → IsHarmless why → FindsSame (h.may_find old) (h.may_find new))
        → (IsTrue (h.honest new) → MayHaveMadeAll (h.may_find old) (h.may_find new) id ws) → IsTrue (h.honest new) → (base : Content) → Holds (h.may_find old) base
        → IsLeftBy why (h.may_find new) base c
    left_by Refused harmless doubt honest base holds = still_holds (h.may_find old) (h.may_find new) base (harmless honest tt) holds
    left_by OutOfMemory harmless doubt honest base holds = still_holds (h.may_find old) (h.may_find new) base (harmless honest tt) holds
    left_by Broken harmless doubt honest base holds = either_held doubt honest base holds

    pub unstored : (why : RecordsFault) → (IsTrue (h.honest new) → IsHarmless why → FindsSame (h.may_find old) (h.may_find new))
        → (IsTrue (h.honest new) → MayHaveMadeAll (h.may_find old) (h.may_find new) id ws) → FailsToStore h why old new c
    unstored why harmless doubt = record { honest = trust; left = left_by why harmless doubt }

  -- a store that wasn't asked has what is left by any fault
  pub unasked : (store : W) (why : RecordsFault) (c : Content) → FailsToStore h why store store c
  unasked store why c = record { honest = λ honest. honest; left = λ honest base holds. held_so why (h.may_find store) base c holds }

  -- what waits still leads there, whether it was stored or not
  pub notes_then : (old new : NotedWrites W) (seen id : ℕ) (c : Content) (result : Result (Unit {0}) RecordsFault) → seen ≡ id
      → OnOk result ((d : Content) → NotesTo h old seen d → NotesTo h new seen d)
      → IfErr result (λ why. (d : Content) → NotesTo h old seen d → NotesTo h new seen d × FailsToStore h why old.store new.store d) → NotesTo h old id c → NotesTo h new id c
  notes_then old new seen id c result me stored fails notes =
      subst (λ (n : ℕ). NotesTo h new n c) me (ends result stored fails (subst (λ (n : ℕ). NotesTo h old n c) (sym me) notes))
    where
      ends : (result : Result (Unit {0}) RecordsFault) → OnOk result ((d : Content) → NotesTo h old seen d → NotesTo h new seen d)
          → IfErr result (λ why. (d : Content) → NotesTo h old seen d → NotesTo h new seen d × FailsToStore h why old.store new.store d) → NotesTo h old seen c → NotesTo h new seen c
      ends (Ok done) stored fails notes = stored c notes
      ends (Err why) stored fails notes = (fails c notes).0

  -- and where it wasn't, the store has what is left
  pub fails_then : (old new : NotedWrites W) (seen id : ℕ) (c : Content) (why : RecordsFault) → seen ≡ id
      → ((d : Content) → NotesTo h old seen d → NotesTo h new seen d × FailsToStore h why old.store new.store d) → NotesTo h old id c → FailsToStore h why old.store new.store c
  fails_then old new seen id c why me fails notes = (fails c (subst (λ (n : ℕ). NotesTo h old n c) (sym me) notes)).1

  -- so a node has kept what it did
  pub has_kept : (noted : NotedWrites W) (id : ℕ) (c : Content) → noted.ended ≡ None → noted.waiting.items ≡ [] → NotesTo h noted id c → HasKept h noted c
  has_kept noted id c goes_on none notes = record { goes_on = goes_on; kept = kept_then noted.store id noted.waiting.items c none (notes goes_on) }

  -- a node that begins beside a store that holds what it holds
  pub began : (noted : NotedWrites W) (store : W) (n : Parts Content) → noted.store ≡ store → noted.waiting.items ≡ [] → noted.ended ≡ None
      → (IsTrue (h.honest store) → (view : View) × Stands is_it n (Running view) × Holds (h.may_find store) view.content × AreRowsFrom 1 view.content.votes)
      → NotesTo h noted (who n).id n.records × HasKept h noted n.records
  began noted store n is none goes_on holds = (notes, has_kept noted (who n).id n.records goes_on none notes)
    where
      begins : IsNoted h store (who n).id noted.waiting.items n.records
      begins honest =
          let at = holds honest in
          let same : n.records ≡ at.0.content = at.1.2.1 n.records refl in
          ∣ (at.0.content, record { holds = at.2; ordered = at.3; leads = subst (λ (rs : List WriteBytes). LeadTo (who n).id rs at.0.content n.records) (sym none) same }) ∣₁

      notes : NotesTo h noted (who n).id n.records
      notes goes = subst (λ (s : W). IsNoted h s (who n).id noted.waiting.items n.records) (sym is) begins
