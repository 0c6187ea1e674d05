use Rattle.std.proofs.Common.{◌<◌, ap₂, subst, Option, ℕ}
use Rattle.std.proofs.lemmas.Bool.{and_parts}
use Rattle.log_ties.specs.Ties.{HasCommits}
use Rattle.sqlite.specs.Files.{image_of}
use Rattle.stored_nodes.specs.Times.{IsReadAs, alone}
use Rattle.stored_nodes.proofs.Timed.{image_with, none_unread, none_without, read_same, shown_if, some_of, told_all}
use Rattle.stored_nodes.proofs.times.other_time_of.Goals as goal

pub returns-in_default-clause-told : goal.returns-in_default-clause-told
returns-in_default-clause-told g c loss is clean =
    let sure = and_parts (g.D.Disk.is_clean c.commits_in.new.log) (g.D.Disk.is_clean c.args.files.now.db) clean in
    absurd (none_without (image_of g.D.Disk c.args.files.now) loss (c.in_ok-commits.ensures.none sure.0 c.in_default.is) is)

pub returns-in_default-2-clause-told : goal.returns-in_default-2-clause-told
returns-in_default-2-clause-told g c loss is clean =
    let image = image_of g.D.Disk c.args.files.now in
    let sure = and_parts (g.D.Disk.is_clean c.commits_in.new.log) (g.D.Disk.is_clean c.count_alone.new.db) clean in
    absurd (none_unread image loss (subst (λ (o : Option ℕ). IsReadAs (alone image) o) c.in_default-2.is (c.in_ok-file.ensures.read sure.1)) is)

pub returns-clause-shown : goal.returns-clause-shown
returns-clause-shown g c clean =
    let image = image_of g.D.Disk c.args.files.now in
    let sure = and_parts (g.D.Disk.is_clean c.count_both.new.files.log) (g.D.Disk.is_clean c.count_both.new.files.db) clean in
    let n = c.in-Some.commits in
    let above = some_of (λ (k : ℕ). 0 < k) c.in_ok-commits.field-0 n c.in-Some.is c.in_ok-commits.ensures.above in
    let has = some_of (HasCommits image.log) c.in_ok-commits.field-0 n c.in-Some.is (c.in_ok-commits.ensures.some (c.count_both.ensures.log.clean sure.0)) in
    let read = subst (λ (o : Option ℕ). IsReadAs (alone image) o) c.in-Some-2.is (c.in_ok-file.ensures.read (c.count_both.ensures.db.clean sure.1)) in
    let whole = read_same _ image c.in_ok-both.both (ap₂ image_with c.commits_in.ensures.same.seen c.count_alone.ensures.same.seen) (c.in_ok-both.ensures.read clean) in
    shown_if image n c.in-Some-2.file c.in_ok-both.both c.told_by.result above has read whole c.told_by.ensures.so

pub returns-clause-told : goal.returns-clause-told
returns-clause-told g c loss is clean =
    let image = image_of g.D.Disk c.args.files.now in
    let sure = and_parts (g.D.Disk.is_clean c.count_both.new.files.log) (g.D.Disk.is_clean c.count_both.new.files.db) clean in
    let n = c.in-Some.commits in
    let has = some_of (HasCommits image.log) c.in_ok-commits.field-0 n c.in-Some.is (c.in_ok-commits.ensures.some (c.count_both.ensures.log.clean sure.0)) in
    let read = subst (λ (o : Option ℕ). IsReadAs (alone image) o) c.in-Some-2.is (c.in_ok-file.ensures.read (c.count_both.ensures.db.clean sure.1)) in
    let whole = read_same _ image c.in_ok-both.both (ap₂ image_with c.commits_in.ensures.same.seen c.count_alone.ensures.same.seen) (c.in_ok-both.ensures.read clean) in
    c.told_by.ensures.all loss (told_all image n c.in-Some-2.file c.in_ok-both.both has read whole loss is)
