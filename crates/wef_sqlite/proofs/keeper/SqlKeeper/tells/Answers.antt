-- What a crash may leave is one of the images.
use Rattle.std.proofs.Common.{rules}
use Rattle.wef_keeper.specs.Keeping.{Store}
use Rattle.wef_sqlite.proofs.Images.{finds_images}
use Rattle.wef_sqlite.proofs.keeper.SqlKeeper.tells.Goals as goal
use Rattle.wef_sqlite.specs.Keeping.{IsLeft, store_of}

pub returns-clause-found : goal.returns-clause-found
returns-clause-found g c =
    let keeper = c.args.self.now in
    let store : Store = store_of keeper.opened keeper.database keeper.tries keeper.reads keeper.faults in
    let left : IsLeft g.S.Store keeper.database.held store = search rules in
    finds_images g.S.Store keeper.database.held store left
