use Rattle.std.proofs.Common.{◌≡◌, length, Ok, Err, sym, ap, ◌∙◌, rules}
use Rattle.std.proofs.lemmas.Result.{err_from_is_err_and}
use Rattle.protocol.specs.Header.{checks_header}
use Rattle.protocol.specs.Of.{parameters, read_as}
use Rattle.protocol.specs.Parameters.{work_words}
use Rattle.digest.specs.Short.{short_bytes}
use Rattle.ceremony.specs.declared.stages.Committed.{Committed}
use Rattle.ceremony.proofs.Committing.{header_stops, lent_stops, commits_ok}
use Rattle.ceremony.proofs.Stopping.{header_early, lent_early, untouched}
use Rattle.ceremony.proofs.commit.commit_in.Goals as goal

pub returns-in_err-header : goal.returns-in_err-header
returns-in_err-header g c =
    let F = g.D.DigestMaker.function in
    let f = c.in_err-header.field-0.0 in
    let refused : checks_header c.args.header.now ≡ Err f = sym c.check_header.ensures.says ∙ ap read_as c.in_err-header.was in
    let early = header_early c.args.header.now f refused in
    let p = err_from_is_err_and c.from_residual.result c.from_residual.ensures.1 in
    rw (p.1, p.2) (record {
      says = sym (header_stops F c.args.header.now c.args.salt.now c.args.master.now c.args.attributes.now (length c.args.words.now) f refused);
      short = untouched F Committed f _ early;
      long = untouched F Committed f _ early;
    })

pub returns-in_err-test_lent : goal.returns-in_err-test_lent
returns-in_err-test_lent g c =
    let F = g.D.DigestMaker.function in
    let h = c.in_ok-header.header in
    let f = c.in_err-test_lent.field-0.0 in
    let read : checks_header c.args.header.now ≡ Ok (parameters h) = sym c.in_ok-header.ensures.says in
    let refused = sym c.test_lent.ensures ∙ c.in_err-test_lent.was in
    let early = lent_early (length c.args.attributes.now) h.a (length c.args.words.now) (work_words (parameters h)) f refused in
    let p = err_from_is_err_and c.from_residual-in_err-test_lent.result c.from_residual-in_err-test_lent.ensures.1 in
    rw (p.1, p.2) (record {
      says = sym (lent_stops F c.args.header.now c.args.salt.now c.args.master.now c.args.attributes.now (length c.args.words.now) (parameters h) f read refused);
      short = untouched F Committed f _ early;
      long = untouched F Committed f _ early;
    })

pub returns : goal.returns
returns g c =
    let F = g.D.DigestMaker.function in
    let h = c.in_ok-header.header in
    let read : checks_header c.args.header.now ≡ Ok (parameters h) = sym c.in_ok-header.ensures.says in
    let salt : short_bytes c.from-salt.result ≡ c.args.salt.now = search rules in
    record {
      says =
          commits_ok F c.args.header.now c.args.salt.now c.args.master.now c.args.attributes.now (length c.args.words.now) (parameters h)
          (short_bytes c.from-salt.result) (short_bytes c.digest_commitments-d1.result) (search rules) read c.in_ok-header.ensures.back c.in_ok-test_lent.ensures salt c.digest_commitments-d1.ensures.digest;
      short = c.digest_commitments-d1.ensures.short;
      long = c.digest_commitments-d1.ensures.long;
    }
