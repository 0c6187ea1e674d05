use Rattle.std.proofs.Common.{◌≡◌, false, refl, sym, ap, subst, ◌∙◌, arith}
use Rattle.acceptor_store_parts.proofs.Words.{Database, IsTable, IsShaped, IsClean, is_open_now, Version, First, Second}
use Rattle.acceptor_store_parts.proofs.Words.{Third, Fourth, AreShaped, HasFactTable, KeepsLearned}
use Rattle.sqlite_trees.specs.Tree.{Trees}
use Rattle.sqlite_trees.specs.declared.store.Shape.TheVariants.{Table}
use Rattle.acceptor_store_parts.proofs.rereading.reread.Goals as goal

-- the trees of a version's tables are tables
shaped : (version : Version) (db : Trees) → IsTable (db 0) → IsTable (db 1) → (KeepsLearned version → IsTable (db 2)) → (HasFactTable version → IsTable (db 3)) → AreShaped version db
shaped First db numbers votes learned facts = (numbers, votes)
shaped Second db numbers votes learned facts = (numbers, votes, learned tt)
shaped Third db numbers votes learned facts = (numbers, votes, learned tt, facts tt)
shaped Fourth db numbers votes learned facts = (numbers, votes, learned tt, facts tt)

pub returns-in-Ok-clause-committed : goal.returns-in-Ok-clause-committed
returns-in-Ok-clause-committed g c clean =
    let store = c.into_store-store.result in
    let v = g.S.Store.view store in
    let sure : IsClean v = omega (arith, c.in-Ok.ensures.clean, clean) in
    let unbroken : v.is_broken ≡ false = sym (c.is_broken.ensures sure) ∙ c.if-is_broken.false in
    let opened = is_open_now g.S.Store store (g.met.S.Store.broken_if_shut store) unbroken in
    let ordered = g.met.S.Store.ordered store unbroken in
    let trees = c.in-Ok.ensures.trees clean in
    let opening = c.in-Ok.ensures.opens clean in
    let first : v.shape 0 ≡ Table = c.if-not-are_tables.ensures.numbers refl in
    let second : v.shape 1 ≡ Table = c.if-not-are_tables.ensures.votes refl in
    let numbers = subst (λ (t : Trees). IsTable (t 0)) (sym trees) (subst (λ s. IsShaped s (v.trees 0)) first (ordered 0)).0 in
    let votes = subst (λ (t : Trees). IsTable (t 1)) (sym trees) (subst (λ s. IsShaped s (v.trees 1)) second (ordered 1)).0 in
    let learned = λ (keeps : KeepsLearned c.args.version). subst (λ s. IsShaped s (v.trees 2)) (c.if-not-has_further.ensures.learned refl keeps) (ordered 2) in
    let facts = λ (is : HasFactTable c.args.version). subst (λ s. IsShaped s (v.trees 3)) (c.if-not-has_further.ensures.facts refl is) (ordered 3) in (
      record {
        opens = opening.0;
        live = opening.1;
        shaped = shaped c.args.version _ numbers votes (λ keeps. subst (λ (t : Trees). IsTable (t 2)) (sym trees) (learned keeps).0) (λ is. subst (λ (t : Trees). IsTable (t 3)) (sym trees) (facts is).0);
      },
      trees ∙ (c.into_store-store.ensures.undone.undone opened).0,
    )

-- it is opened over what was committed, which a crash left before
pub returns-in-Ok-clause-leaves : goal.returns-in-Ok-clause-leaves
returns-in-Ok-clause-leaves g c clean db may =
    let store = c.into_store-store.result in
    let v = g.S.Store.view store in
    let sure : IsClean v = omega (arith, c.in-Ok.ensures.clean, clean) in
    let unbroken : v.is_broken ≡ false = sym (c.is_broken.ensures sure) ∙ c.if-is_broken.false in
    let opened = is_open_now g.S.Store store (g.met.S.Store.broken_if_shut store) unbroken in
    let undone = c.into_store-store.ensures.undone in
    let opening = (c.in-Ok.ensures.opens clean).0 in
    let same : db ≡ (g.S.Store.view c.args.conn.store).committed =
    g.met.S.Store.settled c.in-Ok.again.store db opening.is_open may ∙ (ap (λ (d : Database). d.trees) (sym opening.clean) ∙ (c.in-Ok.ensures.trees clean ∙ (undone.undone opened).0)) in
    subst (g.S.Store.recovers c.args.conn.store) (sym same) (g.met.S.Store.stays c.args.conn.store ((undone.kept sure).was_open opened))
