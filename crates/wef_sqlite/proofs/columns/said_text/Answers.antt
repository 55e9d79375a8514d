-- A text is read, or memory is wanting, or the column holds none.
use Rattle.std.proofs.Common.{refl, ap, ◌∙◌, sym, string_bytes, Some}
use Rattle.std.proofs.lemmas.Str.{IsUtf8-string_bytes}
use Rattle.sqlite_value.specs.Order.{column}
use Rattle.wef_sqlite.specs.Columns.{text_in}
use Rattle.wef_sqlite.proofs.Reading.{IsString, fails, no_text, text_read}
use Rattle.wef_sqlite.proofs.columns.said_text.Goals as goal

pub returns-in_err-string : goal.returns-in_err-string
returns-in_err-string c =
    fails text_in IsString refl no_text c.args.columns.now c.args.at c.in_err-string.field-0.0 c.from_residual.result c.from_residual.ensures.1 c.in_err-string.ensures.kind

pub returns : goal.returns
returns c =
    let text = c.in_ok-string.string in
    text_read (column c.args.columns.now c.args.at) (string_bytes text) (IsUtf8-string_bytes text) c.in_ok-string.ensures.ok.1 ∙ ap Some (sym c.in_ok-from_string.ensures)
