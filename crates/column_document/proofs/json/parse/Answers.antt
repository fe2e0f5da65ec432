-- The value that the crate read is the bytes' own.
use Rattle.serde_json.specs.View.{view}
use Rattle.column_document.proofs.JsonLemmas.{json_read}
use Rattle.column_document.proofs.json.parse.Goals as goal

pub returns-in-Ok : goal.returns-in-Ok
returns-in-Ok c =
    let read = c.in-Ok.ensures.ok in
    json_read c.args.bytes.now (view c.in-Ok.value) read.0 read.1
