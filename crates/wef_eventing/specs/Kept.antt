-- What the names in a list of queries keep.
use Rattle.std.specs.Prelude.{◌≡◌, Some}
use Rattle.std.specs.Str.{IsUtf8}
use Rattle.wef_base.specs.Names.{channel_name}
use Rattle.wef_query.specs.Items.{QueryItem}

-- The item's channel is kept as channels' names are: it is UTF-8, and reads back as itself.
pub record HasKeptName (item : QueryItem) : Type 0 where
  pub utf8 : IsUtf8 item.channel
  pub reads_back : channel_name item.channel ≡ Some item.channel
