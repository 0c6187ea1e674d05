-- Lines that are done and replied to, one after another.
use Rattle.std.proofs.Common.{◌≡◌, ℕ, ◌+◌, ◌-◌, ◌^◌, List, [], ◌∷◌, ◌++◌, length, Option, refl, sym, ap, ◌∙◌, subst}
use Rattle.std.proofs.Common.{inl, inr, add-zero, arith}
use Rattle.std.specs.Prelude.{All, map}
use Rattle.std.specs.Io.KnownBytes.{Appends, Consumes, Keeps}
use Rattle.std.specs.List.{AllZip, enumerate_from, flat_map}
use Rattle.std.proofs.KnownBytes.{Appends-kept, Appends-nil, Appends-trans, Consumes-nil, Consumes-trans}
use Rattle.std.proofs.lemmas.List.{append-nil, flat_map_more, length-append, length-map, map-append}
use Rattle.std.proofs.lemmas.List.Elements.{All-append, All-cons, All-nil}
use Rattle.std.proofs.lemmas.Slice.Zip.{all_zipped_more}
use Rattle.flow_state.specs.Rows.{Rows}
use Rattle.node_lines.specs.Input.{IsLine, ReadsLast, ReadsLine}
use Rattle.node_lines.specs.declared.writing.Unwritten.{Unwritten}
use Rattle.scheduler_lines.specs.declared.form.ReplyForm.{ReplyForm}
use Rattle.scheduler_lines.specs.declared.incoming.Incoming.{Incoming}
use Rattle.scheduler_lines.specs.declared.incoming.Incoming.TheVariants as incoming
use Rattle.scheduler_lines.specs.declared.incoming.Input.{Ghosts as Inputs}
use Rattle.scheduler_lines.specs.declared.outgoing.Output.{Ghosts as Outputs}
use Rattle.scheduler_lines.specs.declared.outgoing.Reply.{Reply}
use Rattle.scheduler_lines.specs.declared.service.End.TheVariants as ends
use Rattle.scheduler_lines.specs.Replying.{Answers, Comes, RepliesFrom, RepliesTo}
use Rattle.scheduler_lines.specs.Serving.{DoesLines, SchedulerEndsBy, WritesReplies, asked_in, replied_in}
use Rattle.scheduler_lines.specs.Texts.{IsReplyText, WritesReply, lines_of}

-- what came and was replied to is a line with its reply
pub line_answered : (what : Incoming) (old new : Option (List ℕ)) (rows : Rows) (replied : Reply) (after : Rows) → Comes old new what → Answers rows what replied after
    → (line : List ℕ) × ReadsLine old new line × RepliesTo rows line replied after
line_answered (incoming.Asks c) old new rows replied after (line, reads, asks) applies = (line, reads, inl (c, asks, applies))
line_answered (incoming.Refused why) old new rows replied after (line, reads, turned) (is, same) = (line, reads, inr (why, turned, is, same))
line_answered incoming.End old new rows replied after came none = absurd none

-- no line, and one more
pub no_lines : {I : Type 0} (input : Inputs I) (i : I) (rows : Rows) → rows ≡ [] → DoesLines input [] rows i i
no_lines input i rows empty = record { whole = All-nil (λ turn. IsLine turn.0); replied = empty; read = Consumes-nil (input.bytes_left i) }

replies_more : (rows : Rows) (turns : List (List ℕ × Reply)) (line : List ℕ) (replied : Reply) (mid after : Rows) → RepliesFrom rows turns mid → RepliesTo mid line replied after
    → RepliesFrom rows (turns ++ (line, replied) ∷ []) after
replies_more rows [] line replied mid after same replies = (after, subst (λ (r : Rows). RepliesTo r line replied after) same replies, refl)
replies_more rows (turn ∷ turns) line replied mid after (between, one, others) replies = (between, one, replies_more between turns line replied mid after others replies)

pub one_line_more : {I : Type 0} (input : Inputs I) (turns : List (List ℕ × Reply)) (line : List ℕ) (replied : Reply) (rows after : Rows) (i im i' : I) → DoesLines input turns rows i im
    → ReadsLine (input.bytes_left im) (input.bytes_left i') line → RepliesTo rows line replied after → DoesLines input (turns ++ (line, replied) ∷ []) after i i'
one_line_more input turns line replied rows after i im i' does (is, reads) replies =
    let P : List ℕ × Reply → Type 0 = λ turn. IsLine turn.0 in
    let lines : lines_of (asked_in (turns ++ (line, replied) ∷ [])) ≡ lines_of (asked_in turns) ++ (line ++ 10 ∷ []) =
    ap lines_of (map-append (λ (turn : List ℕ × Reply). turn.0) turns ((line, replied) ∷ [])) ∙ sym (flat_map_more (λ (text : List ℕ). text ++ 10 ∷ []) [] (asked_in turns) line) in
    record {
      whole = All-append P turns ((line, replied) ∷ []) does.whole (All-cons P (line, replied) [] is (All-nil P));
      replied = replies_more [] turns line replied rows after does.replied replies;
      read = subst (Consumes (input.bytes_left i) (input.bytes_left i')) (sym lines) (Consumes-trans (input.bytes_left i) (input.bytes_left im) (input.bytes_left i') _ _ does.read reads);
    }

-- no reply, and one more
pub no_replies : (form : ReplyForm) (held : Option (List ℕ)) → WritesReplies form [] held held
no_replies form held = ([], tt, Appends-nil held)

numbered_more : (n : ℕ) (replies : List Reply) (replied : Reply) → enumerate_from n (replies ++ replied ∷ []) ≡ enumerate_from n replies ++ (n + length replies, replied) ∷ []
numbered_more n [] replied = rw (add-zero n) refl
numbered_more n (first ∷ replies) replied =
    let count : n + 1 + length replies ≡ n + length (first ∷ replies) = omega arith in
    ap (λ (rows : List (ℕ × Reply)). (n, first) ∷ rows) (rw count at (numbered_more (n + 1) replies replied))

reply_more : (form : ReplyForm) (n : ℕ) (replies : List Reply) (replied : Reply) (old mid new : Option (List ℕ)) → n ≡ 1 + length replies → WritesReplies form replies old mid
    → WritesReply form n replied mid new → WritesReplies form (replies ++ replied ∷ []) old new
reply_more form n replies replied old mid new count (texts, told, grown) (text, tells, line) =
    let R : ℕ × Reply → List ℕ → Type 0 = λ row t. IsReplyText form row.0 row.1 t in
    let P : List ℕ → Type 0 = λ bytes. Appends old new bytes in
    let Rows' : List (ℕ × Reply) → Type 0 = λ rows. AllZip R rows (texts ++ text ∷ []) in
    let here : R (1 + length replies, replied) text = subst (λ (k : ℕ). IsReplyText form k replied text) count tells in (
      texts ++ text ∷ [],
      subst Rows' (sym (numbered_more 1 replies replied)) (all_zipped_more R (enumerate_from 1 replies) texts (1 + length replies, replied) text told here),
      subst P (flat_map_more (λ (t : List ℕ). t ++ 10 ∷ []) [] texts text) (Appends-trans old mid new _ _ grown line),
    )

pub one_reply_more : (form : ReplyForm) (n : ℕ) (turns : List (List ℕ × Reply)) (line : List ℕ) (replied : Reply) (old mid new : Option (List ℕ)) → length turns ≡ n
    → WritesReplies form (replied_in turns) old mid → WritesReply form (n + 1) replied mid new → WritesReplies form (replied_in (turns ++ (line, replied) ∷ [])) old new
one_reply_more form n turns line replied old mid new count grown line_written =
    let f : List ℕ × Reply → Reply = λ turn. turn.1 in
    let P : List Reply → Type 0 = λ replies. WritesReplies form replies old new in
    let long : length (map f turns) ≡ length turns = length-map turns f in
    subst P (sym (map-append f turns ((line, replied) ∷ [])))
    (reply_more form (n + 1) (replied_in turns) replied old mid new (omega (arith, long, count)) grown line_written)

-- what was sent out is what was written
pub replies_kept : (form : ReplyForm) (replies : List Reply) (old mid new : Option (List ℕ)) → WritesReplies form replies old mid → Keeps mid new → WritesReplies form replies old new
replies_kept form replies old mid new (texts, told, grown) kept = (texts, told, Appends-kept old mid new _ grown kept)

-- ---- so many lines were done and replied to

abbrev pub Served : {I O : Type 0} → Inputs I → Outputs O → ReplyForm → ℕ → Rows → I → O → I → O → Type 0
Served input output form count rows i o im om =
    (turns : List (List ℕ × Reply)) × DoesLines input turns rows i im × WritesReplies form (replied_in turns) (output.bytes_held o) (output.bytes_held om) × (length turns ≡ count)

pub none_served : {I O : Type 0} (input : Inputs I) (output : Outputs O) (form : ReplyForm) (rows : Rows) (i : I) (o : O) → rows ≡ [] → Served input output form 0 rows i o i o
none_served input output form rows i o empty = ([], no_lines input i rows empty, no_replies form (output.bytes_held o), refl)

pub sent_out : {I O : Type 0} (input : Inputs I) (output : Outputs O) (form : ReplyForm) (count : ℕ) (rows : Rows) (i : I) (o : O) (im : I) (om sent : O)
    → Served input output form count rows i o im om → Keeps (output.bytes_held om) (output.bytes_held sent) → Served input output form count rows i o im sent
sent_out input output form count rows i o im om sent (turns, does, written, long) kept = (turns, does, replies_kept form (replied_in turns) _ _ _ written kept, long)

pub one_more : {I O : Type 0} (input : Inputs I) (output : Outputs O) (form : ReplyForm) (count : ℕ) (what : Incoming) (replied : Reply) (rows after : Rows) (i : I) (o : O) (im : I) (om : O) (i' : I) (o' : O)
    → Served input output form count rows i o im om → Comes (input.bytes_left im) (input.bytes_left i') what → Answers rows what replied after
    → WritesReply form (count + 1) replied (output.bytes_held om) (output.bytes_held o') → Served input output form (count + 1) after i o i' o'
one_more input output form count what replied rows after i o im om i' o' (turns, does, written, long) came answers line_written =
    let (line, reads, replies) = line_answered what (input.bytes_left im) (input.bytes_left i') rows replied after came answers in
    let more : length (turns ++ (line, replied) ∷ []) ≡ length turns + 1 = length-append turns ((line, replied) ∷ []) in (
      turns ++ (line, replied) ∷ [],
      one_line_more input turns line replied rows after i im i' does reads replies,
      one_reply_more form count turns line replied _ _ _ long written line_written,
      omega (arith, more, long),
    )

-- how it may end behind these

pub at_end : {I O : Type 0} (input : Inputs I) (output : Outputs O) (form : ReplyForm) (count : ℕ) (rows : Rows) (i : I) (o : O) (im : I) (om : O) (i' : I)
    → Served input output form count rows i o im om → Comes (input.bytes_left im) (input.bytes_left i') incoming.End → SchedulerEndsBy input output form ends.Input i o i' om
at_end input output form count rows i o im om i' (turns, does, written, long) (left, reads) = (turns, rows, im, left, does, written, reads)

pub unreadable : {I O : Type 0} (input : Inputs I) (output : Outputs O) (form : ReplyForm) (count : ℕ) (rows : Rows) (i : I) (o : O) (im : I) (om : O) (i' : I)
    → Served input output form count rows i o im om → input.fails im i' → SchedulerEndsBy input output form ends.Unreadable i o i' om
unreadable input output form count rows i o im om i' (turns, does, written, long) fails = (turns, rows, im, does, written, fails)

pub unsent : {I O : Type 0} (input : Inputs I) (output : Outputs O) (form : ReplyForm) (count : ℕ) (rows : Rows) (why : Unwritten) (i : I) (o : O) (im : I) (om o' : O)
    → Served input output form count rows i o im om → output.fails om why o' → SchedulerEndsBy input output form (ends.Unwritten why) i o im o'
unsent input output form count rows why i o im om o' (turns, does, written, long) fails =
    let P : List (List ℕ × Reply) → Type 0 = λ all. DoesLines input all rows i im in
    (turns, [], rows, om, subst P (sym (append-nil turns)) does, omega arith, written, fails)

pub unreplied : {I O : Type 0} (input : Inputs I) (output : Outputs O) (form : ReplyForm) (count : ℕ) (why : Unwritten) (what : Incoming) (replied : Reply) (rows after : Rows) (i : I) (o : O) (im : I) (om : O) (i' : I) (o' : O)
    → Served input output form count rows i o im om → Comes (input.bytes_left im) (input.bytes_left i') what → Answers rows what replied after → output.fails om why o'
    → SchedulerEndsBy input output form (ends.Unwritten why) i o i' o'
unreplied input output form count why what replied rows after i o im om i' o' (turns, does, written, long) came answers fails =
    let (line, reads, replies) = line_answered what (input.bytes_left im) (input.bytes_left i') rows replied after came answers in
    (turns, (line, replied) ∷ [], after, om, one_line_more input turns line replied rows after i im i' does reads replies, omega arith, written, fails)

pub spent : {I O : Type 0} (input : Inputs I) (output : Outputs O) (form : ReplyForm) (count : ℕ) (rows : Rows) (i : I) (o : O) (im : I) (om : O)
    → Served input output form count rows i o im om → count ≡ 2 ^ 64 - 1 → SchedulerEndsBy input output form ends.Spent i o im om
spent input output form count rows i o im om (turns, does, written, long) all = (turns, rows, does, written, long ∙ all)
