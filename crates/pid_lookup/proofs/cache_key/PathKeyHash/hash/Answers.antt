use Rattle.std.proofs.Common.{◌≡◌, Some, refl}
use Rattle.pid_file.specs.PathTexts.{path_text}
use Rattle.pid_ident.specs.PathReading.{path_of}
use Rattle.pid_lookup.proofs.cache_key.PathKeyHash.hash.Goals as goal

pub returns : goal.returns
returns g c =
    let known : path_of (path_text c.self.inside.path) ≡ Some c.self.inside.path =
    (c.texts_have_one_path.ensures (path_text c.self.inside.path) c.self.inside.path).1 (record { in_range = c.feed.ensures.in_range; same = refl }) in
    rw (← c.self.view_is, known) c.feed.ensures.fed
