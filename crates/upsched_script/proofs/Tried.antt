-- A script that was read back and run is as asked, and so is what is printed of it.
use Rattle.std.proofs.Common.{◌≡◌, inl, inr, ℕ, List, length, subst, Bool, IsTrue, Option, Result, Ok, Err}
use Rattle.std.proofs.Common.{IfOk, IfSome, OnOk, String, Global, string_bytes, option_map}
use Rattle.std.proofs.lemmas.List.{length-replicate}
use Rattle.std.specs.Io.KnownBytes.{Appends, Keeps}
use Rattle.std.proofs.KnownBytes.{Appends-kept}
use Rattle.acceptor.specs.Content.{no_content}
use Rattle.node.specs.View.{started}
use Rattle.node.specs.View.Standing.{Running}
use Rattle.ballots.specs.declared.members.Members.{Members}
use Rattle.ballots.specs.Members.{member_count}
use Rattle.grant_machine.specs.declared.command.Command.{Command}
use Rattle.world_events.specs.declared.event.Event.{Event}
use Rattle.seats.specs.declared.answer.Answer.{Answer}
use Rattle.network_script.specs.Next.{Goes, Run}
use Rattle.network_script.specs.World.{Written, opening}
use Rattle.script_text.specs.Script.{IsScript}
use Rattle.script_counts.specs.Counts.{crashes, takeovers, OffersAll}
use Rattle.script_text.specs.Plan.{IsPlan, NoPlan}
use Rattle.script_text.proofs.Callers.{no_plan_read}
use Rattle.upsched_ends.specs.declared.words.ScriptWords.{ScriptWords}
use Rattle.upsched_ends.specs.Members.{NamesMembers}
use Rattle.upsched_script.specs.Scripts.{RunsAsAsked, IsWrittenSo, IsAsAsked, IsAskedFor, NamesIds}
use Rattle.upsched_script.specs.Scripts.{AreNotUnderstood, Deserves, IsOfWords, NeedMore}
use Rattle.upsched_script.specs.declared.refusal.Refusal.{Refusal}
use Rattle.upsched_script.specs.declared.refusal.Refusal.TheVariants as refusal

-- a run of fresh nodes and new modems is one of so many members and of these ids
pub run_of : (members : ℕ) (ids : List ℕ) (count : ℕ) (modems : List ℕ) (events : List Event) (report : List Answer) (w : Written) → members ≡ count → ids ≡ modems
    → Goes (length (opening members ids).nodes) (opening members ids) events report w → (world : Written) × Run count modems events report world
run_of members ids count modems events report w members_are ids_are goes =
    let run : Run members ids events report w = subst (λ (m : ℕ). Goes m (opening members ids) events report w) (length-replicate members (Running (started no_content))) goes in
    (w, rw (← members_are, ← ids_are) run)

-- a run whose report is as wished
pub runs : (commands : List Command) (count : Members) (ids : List ℕ) (crashed overtaken a b : ℕ) (events read : List Event) (report answers : List Answer) (all : Bool)
    → (world : Written) × Run (member_count count) ids events report world → read ≡ events → answers ≡ report → (IsTrue all → OffersAll commands read answers) → a ≡ crashes read answers → b ≡ takeovers read answers
    → IsTrue all × (a ≡ crashed) × (b ≡ overtaken) → RunsAsAsked commands count ids crashed overtaken events
runs commands count ids crashed overtaken a b events read report answers all run events_are report_is offers crashes_are takeovers_are wished = record {
  report = report;
  world = run.0;
  run = run.1;
  crashes_are = rw (← events_are, ← report_is, ← crashes_are) wished.1;
  takeovers_are = rw (← events_are, ← report_is, ← takeovers_are) wished.2;
  offers = rw (events_are, report_is) at offers wished.0;
}

-- a text that is read back as a script which is written so, and runs as asked, is as asked
pub tried : {E : Type 0} (r : Result Bool E) (commands : List Command) (count wished : Members) (ids wished_ids : List ℕ) (crashed overtaken : ℕ) (text : List ℕ) (events : List Event)
    → IsScript text count ids events → IsWrittenSo count ids events wished wished_ids text → IfOk r (λ is. IsTrue is → RunsAsAsked commands count ids crashed overtaken events)
    → IfOk r (λ is. IsTrue is → IsAsAsked commands wished wished_ids crashed overtaken text)
tried (Err e) commands count wished ids wished_ids crashed overtaken text events script so run = tt
tried (Ok is) commands count wished ids wished_ids crashed overtaken text events script so run = λ yes. record {
  events = events;
  script = rw (so.members, so.modems) at script;
  written = rw (so.members, so.modems) at so.written;
  runs = rw (so.members, so.modems) at run yes;
}

-- nothing more was written behind a text
pub kept_behind : {T E : Type 0} (r : Result T E) (old mid new : Option (List ℕ)) (text : List ℕ) → Appends old mid text → OnOk r (Keeps mid new) → OnOk r (Appends old new text)
kept_behind (Err e) old mid new text first kept = tt
kept_behind (Ok x) old mid new text first kept = Appends-kept old mid new text first kept

-- a text as asked is one of what the words name and of the plan's commands
pub asked_for : {E : Type 0} (r : Result (String Global) E) (plan : Option (List ℕ)) (words : ScriptWords) (commands read : List Command) (count : Members) (ids lent : List ℕ)
    → IfSome plan (λ bytes. IsPlan bytes commands) → read ≡ commands → NamesMembers words.members.now count → NamesIds (option_map (λ word. word.now) words.modems) ids → lent ≡ ids
    → IfOk r (λ text. IsAsAsked read count lent words.crashes words.takeovers (string_bytes text)) → IfOk r (λ text. IsAskedFor plan words (string_bytes text))
asked_for (Err e) plan words commands read count ids lent plan_is read_is members modems lent_is asked = tt
asked_for (Ok text) plan words commands read count ids lent plan_is read_is members modems lent_is asked = record {
  commands = commands;
  count = count;
  ids = ids;
  plan_is = plan_is;
  members = members;
  modems = modems;
  as_asked = rw (read_is, lent_is) at asked;
}

-- a text that is known to be no plan has no commands to ask for
pub no_plan_asked : (plan : Option (List ℕ)) (words : ScriptWords) (text : List ℕ) → NoPlan plan → IsAskedFor plan words text → ⊥
no_plan_asked plan words text none asked = no_plan_read plan asked.commands none asked.plan_is

-- words that are refused deserve it
pub not_understood : (plan : Option (List ℕ)) (words : ScriptWords) (r : Refusal) → IsOfWords r → Deserves plan words r → AreNotUnderstood plan words
not_understood plan words refusal.Members is bad = inl bad
not_understood plan words refusal.Modems is bad = inr (inl bad)
not_understood plan words (refusal.Takeovers wished commands) is (same, more, has) = inr (inr (commands, subst (λ (w : ℕ). NeedMore w commands) same more, has))
not_understood plan words refusal.OtherThanAsked is bad = absurd is
not_understood plan words (refusal.Fault fault) is bad = absurd is

-- a refusal that isn't of the words says nothing of them
pub of_no_words : (plan : Option (List ℕ)) (words : ScriptWords) (r : Refusal) → (IsOfWords r → ⊥) → Deserves plan words r
of_no_words plan words refusal.Members other = absurd (other tt)
of_no_words plan words refusal.Modems other = absurd (other tt)
of_no_words plan words (refusal.Takeovers wished commands) other = absurd (other tt)
of_no_words plan words refusal.OtherThanAsked other = tt
of_no_words plan words (refusal.Fault fault) other = tt
