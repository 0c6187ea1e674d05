-- What an open of files without tables shows.
use Rattle.std.proofs.Common.{◌≡◌, Bool, IsTrue, true, false, refl}
use Rattle.std.proofs.lemmas.Bool.{false≢true}
use Rattle.acceptor_store_parts.specs.Tables.{blank_schema}
use Rattle.sqlite.specs.Effect.{Database}
use Rattle.sqlite_wal.specs.Recovery.{Image}
use Rattle.stored_nodes.specs.Looks.{IsRead}
use Rattle.stored_nodes.specs.Tableless.{IsFoundBlank}

-- whether a database that was read has none is found so
pub found_blank : (image : Image) (d : Database) (is : Bool) → IsRead image d → (IsTrue is → d.schema ≡ blank_schema) → (d.schema ≡ blank_schema → IsTrue is) → IsFoundBlank image is
found_blank image d true read some all = (d, read, some refl)
found_blank image d false read some all = λ each. absurd (false≢true (all (each.1 d read)))
