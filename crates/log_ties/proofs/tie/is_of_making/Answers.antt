use Rattle.std.proofs.Common.{◌≡◌, ℕ, List, sym, ◌∙◌, subst, eq-eqb, eqb-true}
use Rattle.std.proofs.lemmas.Bool.{false≢true}
use Rattle.sqlite_wal.specs.Format.{be32}
use Rattle.log_ties.proofs.ReadLemmas.{at_none, at_some}
use Rattle.log_ties.proofs.TieLemmas.{making_of, no_making, none_of}
use Rattle.log_ties.proofs.tie.is_of_making.Goals as goal

pub returns-in-Some-clause-making : goal.returns-in-Some-clause-making
returns-in-Some-clause-making g c clean =
    let log = g.D.Disk.seen c.args.log.now in
    let f = at_some _ _ c.in_ok-_shape.field-0 _ c.in-Some.is (c.in_ok-_shape.ensures.found clean) in
    let head = (c.requires.read (c.frames_of.ensures.same.clean clean)).0 in
    let counts = subst (λ (h : List ℕ). be32 h 12 ≡ 0xffff_ffff) head (sym c.get_be32.ensures ∙ c.if-get_be32.false) in
    (λ none. making_of log _ _ _ _ f counts (eqb-true _ _ none), λ making. eq-eqb _ _ (none_of log _ _ _ _ f making))

pub returns-in-None-clause-making : goal.returns-in-None-clause-making
returns-in-None-clause-making g c clean =
    let log = g.D.Disk.seen c.args.log.now in
    let none = at_none _ _ c.in_ok-_shape.field-0 c.in-None.is (c.in_ok-_shape.ensures.found clean) in
    (λ yes'. absurd (false≢true yes'), λ making. absurd (no_making log none making))
