-- Replies to lines that ask for commands are the outputs of these.
use Rattle.std.proofs.Common.{◌≡◌, ◌≢◌, ℕ, ◌+◌, List, [], ◌∷◌, ◌++◌, Option, refl, ap, ◌∙◌, subst, inl, inr, arith}
use Rattle.std.proofs.Common.{append_assoc}
use Rattle.std.specs.Prelude.{codes, decimal, map}
use Rattle.std.specs.Io.KnownBytes.{Appends}
use Rattle.std.specs.List.{AllZip, enumerate_from}
use Rattle.flow_state.specs.Rows.{Rows}
use Rattle.grant_machine.specs.declared.command.Command.{Command}
use Rattle.grant_machine.specs.declared.output.Output.{Output}
use Rattle.grant_machine.specs.Runs.{outputs_from, outputs_of}
use Rattle.grant_machine.specs.Steps.{step}
use Rattle.node_lines.specs.declared.fault.LineFault.{LineFault}
use Rattle.node_lines.specs.declared.fault.LineFault.TheVariants as fault
use Rattle.printed_outputs.specs.Texts.{output_text}
use Rattle.upsched_json.specs.Plans.{TellsNumbered}
use Rattle.upsched_maps.specs.Lines.{output_line, output_lines}
use Rattle.scheduler_lines.specs.declared.form.ReplyForm.{ReplyForm}
use Rattle.scheduler_lines.specs.declared.form.ReplyForm.TheVariants.{Plain, Json}
use Rattle.scheduler_lines.specs.declared.outgoing.Reply.{Reply}
use Rattle.scheduler_lines.specs.declared.outgoing.Reply.TheVariants as reply
use Rattle.scheduler_lines.specs.Asking.{AsksFor}
use Rattle.upsched_scheduler.specs.Laws.{AsksForEach, PrintsAsMaps}
use Rattle.scheduler_lines.specs.Replying.{Applies, IsTurnedAway, RepliesFrom, RepliesTo}
use Rattle.scheduler_lines.specs.Serving.{WritesReplies, replied_in}
use Rattle.scheduler_lines.specs.Texts.{IsReplyText, lines_of, numbered_text}
use Rattle.scheduler_lines.proofs.Asked.{refused_asks_nothing}

-- a line asks for one command at most
abbrev pub OneMeaning : Type 0
OneMeaning = (line : List ℕ) (c d : Command) → AsksFor line c → AsksFor line d → c ≡ d

-- a line that asks for a command is turned away for want of memory alone
turned_away : (line : List ℕ) (c : Command) (why : LineFault) → AsksFor line c → IsTurnedAway line why → why ≢ fault.OutOfMemory → ⊥
turned_away line c why asks (inl refused) other = refused_asks_nothing line why refused other c asks
turned_away line c fault.NoLine asks (inr dropped) other = dropped
turned_away line c fault.NoHex asks (inr dropped) other = dropped
turned_away line c fault.NoNumber asks (inr dropped) other = dropped
turned_away line c fault.NoCommand asks (inr dropped) other = dropped
turned_away line c (fault.NoLetter why) asks (inr dropped) other = dropped
turned_away line c fault.OutOfMemory asks (inr dropped) other = other refl
turned_away line c fault.TooLong asks (inr dropped) other = let short = asks.0 in absurd (omega (arith, short, dropped))

applied : (rows : Rows) (c : Command) (replied : Reply) (after : Rows) → Applies rows c replied after → replied ≢ reply.Refused fault.OutOfMemory
    → (replied ≡ reply.Applied (step rows c).output) × (after ≡ (step rows c).rows)
applied rows c (reply.Applied o) after (is, same) other = (ap (λ (x : Output). reply.Applied x) is, same)
applied rows c (reply.Refused why) after (lacks, same) other = absurd (other (ap (λ (x : LineFault). reply.Refused x) lacks.0))

-- the reply to a line that asks for a command
stepped : OneMeaning → (rows : Rows) (line : List ℕ) (c : Command) (replied : Reply) (after : Rows) → RepliesTo rows line replied after → AsksFor line c → replied ≢ reply.Refused fault.OutOfMemory
    → (replied ≡ reply.Applied (step rows c).output) × (after ≡ (step rows c).rows)
stepped single rows line c replied after (inl (d, asked, applies)) asks other =
    let same : d ≡ c = single line d c asked asks in
    let P : Command → Type 0 = λ x. Applies rows x replied after in
    applied rows c replied after (subst P same applies) other
stepped single rows line c replied after (inr (why, turned, is, same)) asks other =
    absurd (turned_away line c why asks turned (λ (memory : why ≡ fault.OutOfMemory). other (is ∙ ap (λ (x : LineFault). reply.Refused x) memory)))

outputs_replied : OneMeaning → (rows : Rows) (turns : List (List ℕ × Reply)) (cs : List Command) (after : Rows) → RepliesFrom rows turns after → AsksForEach turns cs
    → replied_in turns ≡ map (λ (o : Output). reply.Applied o) (outputs_from rows cs)
outputs_replied single rows [] [] after replies asks = refl
outputs_replied single rows [] (c ∷ cs) after replies asks = absurd asks
outputs_replied single rows (turn ∷ turns) [] after replies asks = absurd asks
outputs_replied single rows (turn ∷ turns) (c ∷ cs) after (between, one, others) (asks, rest) =
    let first = stepped single rows turn.0 c turn.1 between one asks.0 asks.1 in
    let P : Rows → Type 0 = λ r. RepliesFrom r turns after in
    let then = outputs_replied single (step rows c).rows turns cs after (subst P first.1 others) rest in
    ap (λ (r : Reply). r ∷ replied_in turns) first.0 ∙ ap (λ (rs : List Reply). reply.Applied (step rows c).output ∷ rs) then

abbrev as_replies : List Output → List Reply
as_replies os = map (λ (o : Output). reply.Applied o) os

-- the line of a reply
line_is : (n : ℕ) (o : Output) → numbered_text n (reply.Applied o) ++ 10 ∷ [] ≡ output_line n o
line_is n o = append_assoc (decimal n) (codes " " ++ output_text o) (10 ∷ []) ∙ ap (λ (x : List ℕ). decimal n ++ x) (append_assoc (codes " ") (output_text o) (10 ∷ []))

plain_lines : (n : ℕ) (os : List Output) (texts : List (List ℕ)) → AllZip (λ (row : ℕ × Reply). λ (text : List ℕ). IsReplyText Plain row.0 row.1 text) (enumerate_from n (as_replies os)) texts
    → lines_of texts ≡ output_lines n os
plain_lines n [] [] told = refl
plain_lines n [] (text ∷ texts) told = absurd told
plain_lines n (o ∷ os) [] told = absurd told
plain_lines n (o ∷ os) (text ∷ texts) (first, rest) =
    let here : text ++ 10 ∷ [] ≡ output_line n o = ap (λ (x : List ℕ). x ++ 10 ∷ []) first ∙ line_is n o in
    ap (λ (x : List ℕ). x ++ lines_of texts) here ∙ ap (λ (x : List ℕ). output_line n o ++ x) (plain_lines (n + 1) os texts rest)

json_lines : (n : ℕ) (os : List Output) (texts : List (List ℕ)) → AllZip (λ (row : ℕ × Reply). λ (text : List ℕ). IsReplyText Json row.0 row.1 text) (enumerate_from n (as_replies os)) texts
    → AllZip TellsNumbered (enumerate_from n os) texts
json_lines n [] [] told = tt
json_lines n [] (text ∷ texts) told = absurd told
json_lines n (o ∷ os) [] told = absurd told
json_lines n (o ∷ os) (text ∷ texts) (first, rest) = (first, json_lines (n + 1) os texts rest)

as_maps : (form : ReplyForm) (cs : List Command) (old new : Option (List ℕ)) → WritesReplies form (as_replies (outputs_of cs)) old new → PrintsAsMaps form cs old new
as_maps Plain cs old new (texts, told, grown) = subst (Appends old new) (plain_lines 1 (outputs_of cs) texts told) grown
as_maps Json cs old new (texts, told, grown) = (texts, json_lines 1 (outputs_of cs) texts told, grown)

pub printed : OneMeaning → (form : ReplyForm) (turns : List (List ℕ × Reply)) (cs : List Command) (after : Rows) (old new : Option (List ℕ))
    → RepliesFrom [] turns after → AsksForEach turns cs → WritesReplies form (replied_in turns) old new → PrintsAsMaps form cs old new
printed single form turns cs after old new replies asks written =
    let P : List Reply → Type 0 = λ rs. WritesReplies form rs old new in
    as_maps form cs old new (subst P (outputs_replied single [] turns cs after replies asks) written)
