-- The numbers, as the query shows them.
use Rattle.std.proofs.Common.{◌≡◌, ℕ, pos, List, [], ◌∷◌, Result, refl, IfOk, lit<}
use Rattle.acceptor_store_parts.proofs.Words.{IfOk-weaker, Content, Error, Null, Int, Row, overlay, State, Version}
use Rattle.acceptor_store_parts.proofs.Words.{First, Second, Third, Fourth, numbers_query, number_shown, numbers_of}
use Rattle.acceptor_store_parts.proofs.Words.{numbers_shown, three, ServesAs}
use Rattle.sqlite.specs.State.{Shown}
use Rattle.acceptor_store_parts.proofs.Meaning.{two_columns, numbers_query_is, reads}
use Rattle.acceptor_store_parts.proofs.Rising.{IsRisingBy}
use Rattle.acceptor_store_parts.proofs.RowsShown.{shown_all}

-- what stands in a row after its id
abbrev rest : ℕ × ℕ → Row
rest e = Null ∷ Int (pos e.1) ∷ []

pub three_rise : (n tried row : ℕ) → IsRisingBy (λ (e : ℕ × ℕ). e.0) (three n tried row)
three_rise n tried row = ((lit< tt, (lit< tt, tt)), ((lit< tt, tt), (tt, tt)))

pub numbers_rise : (version : Version) (tried row : ℕ) → IsRisingBy (λ (e : ℕ × ℕ). e.0) (numbers_of version tried row)
numbers_rise First tried row = ((lit< tt, tt), (tt, tt))
numbers_rise Second tried row = three_rise 2 tried row
numbers_rise Third tried row = three_rise 3 tried row
numbers_rise Fourth tried row = three_rise 4 tried row

reads_numbers : (version : Version) (old new : State) (c : Content) (was : ServesAs version old c) (rows : List Row) → Shown numbers_query [] old new rows → rows ≡ numbers_shown version c.tried c.row
reads_numbers version old new c was rows h =
    let got = reads (numbers_query_is version) _ old new was.schema rows h in
    shown_all rest (λ e. number_shown e.0 e.1) 0 two_columns (numbers_of version c.tried c.row) (numbers_rise version c.tried c.row) (overlay old.now.trees []) was.tables.numbers (λ e. refl) rows (got.answer Null)

pub numbers_found : (old new : State) {X : Type 0} (r : Result X Error) (items : X → List Row) → IfOk r (λ x. Shown numbers_query [] old new (items x))
    → IfOk r (λ x. (version : Version) (c : Content) → ServesAs version old c → items x ≡ numbers_shown version c.tried c.row)
numbers_found old new r items = IfOk-weaker r _ _ (λ x h. λ version c was. reads_numbers version old new c was (items x) h)

pub same_numbers : (version : Version) (a b tried row : ℕ) → numbers_shown version a b ≡ numbers_shown version tried row → (a ≡ tried) × (b ≡ row)
same_numbers First a b tried row e = let one : a ≡ tried = cc in let two : b ≡ row = cc in (one, two)
same_numbers Second a b tried row e = let one : a ≡ tried = cc in let two : b ≡ row = cc in (one, two)
same_numbers Third a b tried row e = let one : a ≡ tried = cc in let two : b ≡ row = cc in (one, two)
same_numbers Fourth a b tried row e = let one : a ≡ tried = cc in let two : b ≡ row = cc in (one, two)
