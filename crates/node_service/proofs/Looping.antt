-- What the loop over lines keeps, and how it ends.
use Rattle.std.proofs.Common.{◌≡◌, ◌⊎◌, inl, inr, ℕ, ◌+◌, ◌-◌, ◌^◌, List, [], ◌∷◌, ◌++◌, length, Bool, true, false}
use Rattle.std.proofs.Common.{IsTrue, Option, Result, Ok, Err, refl, sym, ap, ◌∙◌, subst, append_assoc, length-append}
use Rattle.std.specs.Io.KnownBytes.{Consumes}
use Rattle.std.specs.List.{Contains}
use Rattle.std.proofs.lemmas.List.{append-nil, map-append}
use Rattle.node_lines.specs.Input.{LineComes}
use Rattle.node_service.specs.declared.batches.BatchedEnd.{BatchedEnd}
use Rattle.node_service.specs.declared.batches.BatchedEnd.TheVariants as ends
use Rattle.node_service.specs.declared.keeper.Keeper.{Ghosts as Keepers}
use Rattle.node_service.specs.declared.lines.Lines.{Ghosts as Inputs}
use Rattle.node_service.specs.declared.outbox.Outbox.{Ghosts as Outputs}
use Rattle.node_lines.specs.declared.fault.LineFault.{LineFault}
use Rattle.node_lines.specs.declared.input.Next.{Next}
use Rattle.node_lines.specs.declared.input.Next.TheVariants as next
use Rattle.node_service.specs.Batched.{Closes, EndsBatchedBy, FailsToClose, IsCameOf, LineTurn, DoesNoMore, Takes}
use Rattle.node_service.specs.Batched.{UnkeptTurns, comes_apart, replies_in}
use Rattle.node_service.specs.Came.{next_of}
use Rattle.node_lines.specs.Input.{ReadsLine}
use Rattle.node_service.proofs.Batching.{Serving, closed, ends_early, one_waits, served}

-- so many lines were served, of which the last ones wait for these replies
pub record IsTaken {A R I O : Type 0} (keeper : Keepers A R) (text : R → List ℕ) (input : Inputs I) (output : Outputs O) (n : ℕ) (rs : List R) (a : A) (i : I) (o : O) (a' : A) (i' : I) (o' : O) : Type 0 where
  pub seen : List (List ℕ × R)
  pub waiting : List (List ℕ × R)
  pub serving : Serving keeper text input output seen waiting a i o a' i' o'
  pub replies : rs ≡ replies_in waiting
  pub count : length (seen ++ waiting) ≡ n

-- and nothing waits, or it is up and a line is ahead
pub record IsServing {A R I O : Type 0} (keeper : Keepers A R) (text : R → List ℕ) (input : Inputs I) (output : Outputs O) (ahead : I → List ℕ) (n : ℕ) (rs : List R) (a : A) (i : I) (o : O) (a' : A) (i' : I) (o' : O) : Type 0 where
  pub taken : IsTaken keeper text input output n rs a i o a' i' o'
  pub noted : keeper.has_noted a'
  pub room : keeper.has_room a'
  pub ready : (rs ≡ []) ⊎ ((keeper.up a' ≡ true) × Contains (ahead i') 10)

-- a line that came and was replied to is a turn
line_came : (old new : Option (List ℕ)) (what : Next) (came : Result (List ℕ) LineFault) → what ≡ next_of came → LineComes old new what
    → (line : List ℕ) × ReadsLine old new line × IsCameOf line came
line_came old new what (Ok kept) is comes =
    let here : LineComes old new (next.Line kept) = subst (λ (w : Next). LineComes old new w) is comes in (kept, here.0, (refl, here.1))
line_came old new what (Err why) is comes = subst (λ (w : Next). LineComes old new w) is comes

none_waits : {R : Type 0} (turns : List (List ℕ × R)) → replies_in turns ≡ [] → turns ≡ []
none_waits [] none = refl
none_waits (turn ∷ turns) none = absurd (cc (none))

module _ {A R I O : Type 0} (keeper : Keepers A R) (text : R → List ℕ) (input : Inputs I) (output : Outputs O) (ahead : I → List ℕ) (a : A) (i : I) (o : O) where
  abbrev Taken : ℕ → List R → A → I → O → Type 0
  Taken n rs b j p = IsTaken keeper text input output n rs a i o b j p

  abbrev IsAt : ℕ → List R → A → I → O → Type 0
  IsAt n rs b j p = IsServing keeper text input output ahead n rs a i o b j p

  abbrev IsBefore : ℕ → List R → A → I → O → Type 0
  IsBefore n rs b j p = Taken n rs b j p × keeper.has_noted b × keeper.has_room b × (keeper.up b ≡ true)

  abbrev Ends : BatchedEnd → A → I → O → Type 0
  Ends end b j p = EndsBatchedBy keeper text input output end a i o b j p

  abbrev Shuts : List R → A → O → A → O → Type 0
  Shuts rs b p b' p' = Closes keeper text output rs b p b' p'

  -- all that waited is closed
  shut : (n : ℕ) (rs : List R) (b : A) (j : I) (p : O) (b' : A) (p' : O) → Taken n rs b j p → Shuts rs b p b' p'
      → (turns : List (List ℕ × R)) × Serving keeper text input output turns [] a i o b' j p' × (length turns ≡ n)
  shut n rs b j p b' p' s closes =
      (s.seen ++ s.waiting, closed keeper text input output a i o s.seen s.waiting b j p b' p' s.serving (subst (λ (xs : List R). Shuts xs b p b' p') s.replies closes), s.count)

  shut_taken : (n : ℕ) (rs none : List R) (b : A) (j : I) (p : O) (b' : A) (p' : O) → Taken n rs b j p → Shuts rs b p b' p' → none ≡ [] → Taken n none b' j p'
  shut_taken n rs none b j p b' p' s closes is =
      let all = shut n rs b j p b' p' s closes in
      record { seen = all.0; waiting = []; serving = all.1; replies = is; count = ap (λ (ts : List (List ℕ × R)). length ts) (append-nil all.0) ∙ all.2 }

  -- one line more waits
  one_more : (n : ℕ) (rs : List R) (b : A) (j : I) (p : O) (line : List ℕ) (replied : R) (b' : A) (j' : I) → Taken n rs b j p → LineTurn keeper input line replied b j b' j'
      → Consumes (input.bytes_left j) (input.bytes_left j') (line ++ 10 ∷ []) → Taken (n + 1) (rs ++ replied ∷ []) b' j' p
  one_more n rs b j p line replied b' j' s turn read =
      let last : List (List ℕ × R) = (line, replied) ∷ [] in record {
        seen = s.seen;
        waiting = s.waiting ++ last;
        serving = one_waits keeper text input output a i o s.seen s.waiting line replied b j p b' j' s.serving turn read;
        replies = ap (λ (xs : List R). xs ++ replied ∷ []) s.replies ∙ sym (map-append (λ (t : List ℕ × R). t.1) s.waiting last);
        count = ap (λ (ts : List (List ℕ × R)). length ts) (sym (append_assoc s.seen s.waiting last)) ∙ length-append (s.seen ++ s.waiting) last ∙ ap (λ (k : ℕ). k + 1) s.count;
      }

  -- the reply to it was taken
  pub one_taken : (n : ℕ) (rs : List R) (b : A) (j : I) (p : O) (replied : R) (rs' : List R) (b' : A) (p' : O) → Taken n (rs ++ replied ∷ []) b j p → keeper.has_noted b
      → Takes keeper text output replied rs b p rs' b' p' → Taken n rs' b' j p' × keeper.has_noted b'
  one_taken n rs b j p replied rs' b' p' s noted (inl (closes, none)) = (shut_taken n (rs ++ replied ∷ []) rs' b j p b' p' s closes none, closes.noted)
  one_taken n rs b j p replied rs' b' p' s noted (inr (is, same, held)) = (
    subst (λ (x : O). Taken n rs' b' j x) (sym held) (subst (λ (x : A). Taken n rs' x j p) (sym same) (subst (λ (xs : List R). Taken n xs b j p) (sym is) s)),
    subst (λ (x : A). keeper.has_noted x) (sym same) noted,
  )

  -- the batch goes on, or is closed
  pub goes_on : (n : ℕ) (rs : List R) (b : A) (j : I) (p : O) (rs' : List R) (b' : A) (p' : O) (on : Bool) → Taken n rs b j p → keeper.has_noted b
      → (on ≡ true → keeper.has_room b) → (on ≡ true → keeper.up b ≡ true) → (on ≡ true → Contains (ahead j) 10)
      → (on ≡ true → (rs' ≡ rs) × (b' ≡ b) × (p' ≡ p)) → (on ≡ false → Shuts rs b p b' p' × (rs' ≡ [])) → IsAt n rs' b' j p'
  goes_on n rs b j p rs' b' p' true s noted room up line same shuts =
      let is = same refl in
      let here : IsAt n rs b j p = record { taken = s; noted = noted; room = room refl; ready = inr (up refl, line refl) } in
      subst (λ (x : O). IsAt n rs' b' j x) (sym is.2) (subst (λ (x : A). IsAt n rs' x j p) (sym is.1) (subst (λ (xs : List R). IsAt n xs b j p) (sym is.0) here))
  goes_on n rs b j p rs' b' p' false s noted room up line same shuts =
      let it = shuts refl in record {
        taken = shut_taken n rs rs' b j p b' p' s it.0 it.1;
        noted = it.0.noted;
        room = it.0.room;
        ready = inl it.1;
      }

  -- nothing waits where no reply does
  none_unkept : (n : ℕ) (rs : List R) (b : A) (j : I) (p : O) → Taken n rs b j p → rs ≡ [] → keeper.has_kept b
  none_unkept n rs b j p s none =
      let nobody : s.waiting ≡ [] = none_waits s.waiting (sym s.replies ∙ none) in
      let left : UnkeptTurns keeper input [] s.serving.mid s.serving.from b j = subst (λ (ts : List (List ℕ × R)). UnkeptTurns keeper input ts s.serving.mid s.serving.from b j) nobody s.serving.waits in
      subst (λ (x : A). keeper.has_kept x) (sym left.0) s.serving.kept

  -- before a line that came it goes on, or all is closed
  pub before_line : (n : ℕ) (rs : List R) (b : A) (j : I) (p : O) (rs' : List R) (b' : A) (p' : O) (on : Bool) → Taken n rs b j p → keeper.has_noted b → keeper.has_room b → keeper.up b ≡ true
      → (on ≡ true → (rs' ≡ rs) × (b' ≡ b) × (p' ≡ p)) → (on ≡ false → Shuts rs b p b' p' × (rs' ≡ [])) → IsBefore n rs' b' j p'
  before_line n rs b j p rs' b' p' true s noted room up same shuts =
      let is = same refl in
      let here : IsBefore n rs b j p = (s, noted, room, up) in
      subst (λ (x : O). IsBefore n rs' b' j x) (sym is.2) (subst (λ (x : A). IsBefore n rs' x j p) (sym is.1) (subst (λ (xs : List R). IsBefore n xs b j p) (sym is.0) here))
  before_line n rs b j p rs' b' p' false s noted room up same shuts =
      let it = shuts refl in (shut_taken n rs rs' b j p b' p' s it.0 it.1, it.0.noted, it.0.room, it.0.same ∙ up)

  -- and a crash leaves all that was done before a line that is done apart
  pub kept_before : (n : ℕ) (rs : List R) (b : A) (j : I) (p : O) (rs' : List R) (b' : A) (p' : O) (on apart : Bool) → Taken n rs b j p
      → (IsTrue on → (rs ≡ []) ⊎ (apart ≡ false)) → (on ≡ true → (rs' ≡ rs) × (b' ≡ b) × (p' ≡ p)) → (on ≡ false → Shuts rs b p b' p' × (rs' ≡ [])) → apart ≡ true → keeper.has_kept b'
  kept_before n rs b j p rs' b' p' true apart s may same shuts is = elim (may refl) [
    | inl none ↦ subst (λ (x : A). keeper.has_kept x) (sym (same refl).1) (none_unkept n rs b j p s none)
    | inr not ↦ absurd (cc (is, not))
  ]
  kept_before n rs b j p rs' b' p' false apart s may same shuts is = (shuts refl).0.kept

  -- a batch that can't be closed is the end
  pub ends_open : (n : ℕ) (rs : List R) (end : BatchedEnd) (b : A) (j : I) (p : O) (b' : A) (j' : I) (p' : O) → Taken n rs b j p → DoesNoMore keeper input j j'
      → FailsToClose keeper text output rs end b p b' p' → Ends end b' j' p'
  ends_open n rs end b j p b' j' p' s no_more fails =
      ends_early keeper text input output a i o s.seen s.waiting end b j p b' j' p' s.serving no_more (subst (λ (xs : List R). FailsToClose keeper text output xs end b p b' p') s.replies fails)

  -- one that can't be closed before a line that is done apart
  pub ends_before : (n : ℕ) (rs : List R) (end : BatchedEnd) (b : A) (j : I) (p : O) (what : Next) (b' : A) (j' : I) (p' : O) → Taken n rs b j p → comes_apart keeper.is_apart what ≡ true
      → input.gives j what j' → FailsToClose keeper text output rs end b p b' p' → Ends end b' j' p'
  ends_before n rs end b j p (next.Line line) b' j' p' s apart gives fails = ends_open n rs end b j p b' j' p' s (inr (line, apart, gives)) fails
  ends_before n rs end b j p (next.Refused why) b' j' p' s apart gives fails = absurd (cc apart)
  ends_before n rs end b j p next.End b' j' p' s apart gives fails = absurd (cc apart)

  -- a batch that is closed before an end
  ends_at_end : (n : ℕ) (rs : List R) (end : BatchedEnd) (b : A) (j : I) (p : O) (b' : A) (j' : I) (p' : O) → Taken n rs b j p → keeper.up b ≡ true → input.gives j next.End j'
      → LineComes (input.bytes_left j) (input.bytes_left j') next.End → ((end ≡ ends.Input) × Shuts rs b p b' p') ⊎ FailsToClose keeper text output rs end b p b' p' → Ends end b' j' p'
  ends_at_end n rs end b j p b' j' p' s up gives (left, last) (inl (is, closes)) =
      let all = shut n rs b j p b' p' s closes in
      subst (λ (e : BatchedEnd). Ends e b' j' p') (sym is) (all.0, j, left, served keeper text input output a i o all.0 [] b' j p' all.1, closes.same ∙ up, gives, last)
  ends_at_end n rs end b j p b' j' p' s up gives comes (inr fails) = ends_open n rs end b j p b' j' p' s (inl (inr (inl gives))) fails

  pub ends_unread : (n : ℕ) (rs : List R) (end : BatchedEnd) (b : A) (j : I) (p : O) (b' : A) (j' : I) (p' : O) → Taken n rs b j p → keeper.up b ≡ true → input.fails j j'
      → ((end ≡ ends.Unreadable) × Shuts rs b p b' p') ⊎ FailsToClose keeper text output rs end b p b' p' → Ends end b' j' p'
  ends_unread n rs end b j p b' j' p' s up failed (inl (is, closes)) =
      let all = shut n rs b j p b' p' s closes in
      subst (λ (e : BatchedEnd). Ends e b' j' p') (sym is) (all.0, j, served keeper text input output a i o all.0 [] b' j p' all.1, closes.same ∙ up, failed)
  ends_unread n rs end b j p b' j' p' s up failed (inr fails) = ends_open n rs end b j p b' j' p' s (inl (inr (inr failed))) fails

  pub ends_spent : (n : ℕ) (rs : List R) (end : BatchedEnd) (b : A) (j : I) (p : O) (b' : A) (p' : O) → Taken n rs b j p → n ≡ 2 ^ 64 - 1
      → ((end ≡ ends.Spent) × Shuts rs b p b' p') ⊎ FailsToClose keeper text output rs end b p b' p' → Ends end b' j p'
  ends_spent n rs end b j p b' p' s most (inl (is, closes)) =
      let all = shut n rs b j p b' p' s closes in
      subst (λ (e : BatchedEnd). Ends e b' j p') (sym is) (all.0, served keeper text input output a i o all.0 [] b' j p' all.1, all.2 ∙ most)
  ends_spent n rs end b j p b' p' s most (inr fails) = ends_open n rs end b j p b' j p' s (inl (inl refl)) fails

  -- one that is down has kept all
  pub ends_down : (n : ℕ) (rs : List R) (b : A) (j : I) (p : O) → IsAt n rs b j p → keeper.up b ≡ false → Ends ends.Crashed b j p
  ends_down n rs b j p s down = elim s.ready [
    | inl none ↦
        let nobody : s.taken.waiting ≡ [] = none_waits s.taken.waiting (sym s.taken.replies ∙ none) in
        let serving : Serving keeper text input output s.taken.seen [] a i o b j p = subst (λ (ts : List (List ℕ × R)). Serving keeper text input output s.taken.seen ts a i o b j p) nobody s.taken.serving in
        (s.taken.seen, served keeper text input output a i o s.taken.seen [] b j p serving, down)
    | inr up ↦ absurd (cc (up.0, down))
  ]

  -- a line that came and was replied to waits
  pub turned : (n : ℕ) (rs : List R) (b : A) (j : I) (p : O) (what : Next) (replied : R) (b' : A) (j' : I) → Taken n rs b j p → keeper.up b ≡ true
      → (comes_apart keeper.is_apart what ≡ true → keeper.has_kept b) → LineComes (input.bytes_left j) (input.bytes_left j') what → input.gives j what j' → (came : Result (List ℕ) LineFault) × (what ≡ next_of came) × keeper.replies b came replied b'
      → Taken (n + 1) (rs ++ replied ∷ []) b' j' p
  turned n rs b j p what replied b' j' s up apart comes gives (came, is, replies) =
      let line = line_came (input.bytes_left j) (input.bytes_left j') what came is comes in
      let turn : LineTurn keeper input line.0 replied b j b' j' = record {
        came = came;
        whole = line.1.0;
        is = line.2;
        gives = subst (λ (w : Next). input.gives j w j') is gives;
        up = up;
        apart = λ kept. apart (ap (λ (w : Next). comes_apart keeper.is_apart w) is ∙ kept);
        replies = replies;
      } in
      one_more n rs b j p line.0 replied b' j' s turn line.1.1

  -- no line was left
  pub ends_behind : (n : ℕ) (rs : List R) (end : BatchedEnd) (what : Next) (b b1 : A) (j : I) (p : O) (b' : A) (j' : I) (p' : O) → Taken n rs b j p → keeper.up b ≡ true
      → LineComes (input.bytes_left j) (input.bytes_left j') what → input.gives j what j' → (what ≡ next.End) × (b1 ≡ b)
      → ((end ≡ ends.Input) × Shuts rs b1 p b' p') ⊎ FailsToClose keeper text output rs end b1 p b' p' → Ends end b' j' p'
  ends_behind n rs end what b b1 j p b' j' p' s up comes gives (is, same) closes =
      ends_at_end n rs end b1 j p b' j' p' (subst (λ (x : A). Taken n rs x j p) (sym same) s) (ap (λ (x : A). keeper.up x) same ∙ up) (subst (λ (w : Next). input.gives j w j') is gives)
      (subst (λ (w : Next). LineComes (input.bytes_left j) (input.bytes_left j') w) is comes) closes
