-- What is done to a folder, one thing after another.
use Rattle.std.specs.Prelude.{◌≡◌, ℕ, List, [], ◌∷◌, ◌++◌, Option, Some, None}
use Rattle.stored_hosts.specs.declared.names.HostFile.{HostFile}

-- a file is made or emptied, written to and synced; it gets another name; the folder is synced; a file is removed
pub data Act : Type 0 where
  Makes : (file : HostFile) → Act
  Writes : (file : HostFile) (bytes : List ℕ) → Act
  SyncsFile : (file : HostFile) → Act
  Renames : (old new : HostFile) → Act
  Syncs : Act
  Removes : (file : HostFile) → Act

module _ {F E : Type 0} (does : F → Act → Option E → F → Type 0) where
  -- all of these were done, in this order, from one folder to the other
  abbrev pub AreDone : F → List Act → F → Type 0
  AreDone f [] g = f ≡ g
  AreDone f (act ∷ acts) g = (h : F) × does f act None h × AreDone h acts g

  -- those before one of them were done, in this order, and that one failed so; those behind it weren't tried
  pub record FailsAmong (f : F) (acts : List Act) (why : E) (g : F) : Type 0 where
    pub front : List Act
    pub act : Act
    pub rest : List Act
    pub are : acts ≡ front ++ act ∷ rest
    pub h : F
    pub done : AreDone f front h
    pub failed : does h act (Some why) g
