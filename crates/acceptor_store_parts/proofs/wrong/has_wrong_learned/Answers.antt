use Rattle.std.proofs.Common.{◌≡◌, Bool, false, true, IsTrue, codes, is_none, not, refl, rules, sym, subst, true≢false, ◌∙◌}
use Rattle.sqlite.specs.Schema.{Schema}
use Rattle.sqlite_schema.specs.Names.{same_name, table_named}
use Rattle.acceptor_store_parts.proofs.Shapes.{all_learned_shown}
use Rattle.acceptor_store_parts.proofs.Words.{AreRowsFrom, First, Fourth, KeepsLearned, Second, Third, Version, schema_of}
use Rattle.acceptor_store_parts.proofs.wrong.has_wrong_learned.Goals as goal

no_order : (b : Bool) → IsTrue (not b) → b ≡ false
no_order false h = refl
no_order true h = search rules

order : (b : Bool) → not b ≡ false → IsTrue b
order true h = search rules
order false h = search rules

pub returns-in-Ok-read_learned-clause-wrong : goal.returns-in-Ok-read_learned-clause-wrong
returns-in-Ok-read_learned-clause-wrong g c clean wrong version keeps schema learned holds =
    let shown = c.in-Ok.ensures.value clean version learned keeps schema holds.rising holds.rows in
    let same : c.in-Ok-read_learned.learned.items ≡ learned = all_learned_shown c.in-Ok-read_learned.learned.items learned (sym c.in-Ok-read_learned.ensures.ok ∙ (c.as_slice.ensures.value ∙ shown)) in
    c.are_rising.ensures.no (no_order c.are_rising.result wrong) (subst (AreRowsFrom 1) (sym (c.as_slice-in-Ok-read_learned.ensures.value ∙ same)) holds.rising)

pub returns-in-Ok-read_learned-clause-right : goal.returns-in-Ok-read_learned-clause-right
returns-in-Ok-read_learned-clause-right g c clean right sound version keeps schema shaped =
    let learned = c.in-Ok-read_learned.learned.items in (
      learned,
      record {
        rows = c.in-Ok.ensures.held clean version keeps (record { schema = schema; sound = sound; shaped = shaped }) learned (sym c.as_slice.ensures.value ∙ c.in-Ok-read_learned.ensures.ok);
        values = c.in-Ok-read_learned.ensures.fits;
        rising = subst (AreRowsFrom 1) c.as_slice-in-Ok-read_learned.ensures.value (c.are_rising.ensures.yes (order c.are_rising.result right));
      },
    )

pub returns-in-Err-Down-clause-wrong : goal.returns-in-Err-Down-clause-wrong
returns-in-Err-Down-clause-wrong g c clean wrong version keeps schema learned holds =
    c.in-Err-Down.ensures.wrong c.in-Err-Down.field-0-is learned holds.values (c.as_slice.ensures.value ∙ c.in-Ok.ensures.value clean version learned keeps schema holds.rising holds.rows)

abbrev LacksLearned : Schema → Type 0
LacksLearned s = is_none (table_named s (codes "learned")) ≡ true

-- a version that keeps learned values has their table
has_table : (version : Version) → KeepsLearned version → (s : Schema) → s ≡ schema_of version → LacksLearned s → ⊥
unfolding same_name
has_table First keeps s is none = absurd keeps
has_table Second keeps s is none = absurd (true≢false (sym (subst LacksLearned is none)))
has_table Third keeps s is none = absurd (true≢false (sym (subst LacksLearned is none)))
has_table Fourth keeps s is none = absurd (true≢false (sym (subst LacksLearned is none)))

pub returns-then-is_none-clause-right : goal.returns-then-is_none-clause-right
returns-then-is_none-clause-right g c clean right sound version keeps schema shaped =
    let none : LacksLearned c.args.conn.now.schema = search rules in
    absurd (has_table version keeps c.args.conn.now.schema schema none)
