-- Names that name no file.
use Rattle.std.proofs.Common.{◌≡◌, ◌≢◌, ◌∙◌, arith, sym, ap, ℕ, ◌<◌, ◌^◌, List, ◌++◌}
use Rattle.std.specs.Prelude.{decimal}
use Rattle.std.proofs.lemmas.Fmt.{decimal_injective}
use Rattle.std.proofs.lemmas.List.{append_cancel_right}
use Rattle.stored_hosts.specs.Names.{IsName, suffix}
use Rattle.stored_hosts.specs.declared.names.FileKind.{FileKind}
use Rattle.stored_hosts.specs.declared.names.HostFile.{HostFile}

-- what stands before the ending is no number
pub no_number : (name digits : List ℕ) (kind : FileKind) → name ≡ digits ++ suffix kind → ((n : ℕ) → n < 2 ^ 64 → digits ≢ decimal n)
    → (file : HostFile) → file.kind ≡ kind → ¬ IsName name file
no_number name digits kind is none file of named =
    none file.epoch named.fits (append_cancel_right digits (decimal file.epoch) (suffix kind) (sym is ∙ named.is ∙ ap (λ (k : FileKind). decimal file.epoch ++ suffix k) of))

-- or it is none that is counted
pub no_zero : (name digits : List ℕ) (kind : FileKind) (epoch : ℕ) → name ≡ digits ++ suffix kind → digits ≡ decimal epoch → epoch ≡ 0 → epoch < 2 ^ 64
    → (file : HostFile) → file.kind ≡ kind → ¬ IsName name file
no_zero name digits kind epoch is number zero fits file of named =
    let same = append_cancel_right digits (decimal file.epoch) (suffix kind) (sym is ∙ named.is ∙ ap (λ (k : FileKind). decimal file.epoch ++ suffix k) of) in
    let one : epoch ≡ file.epoch = decimal_injective epoch file.epoch fits named.fits (sym number ∙ same) in
    omega (arith, one, zero, named.counted)
