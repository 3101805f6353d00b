-- What the CREATE texts make, one after the other.
use Rattle.std.proofs.Common.{◌≡◌, [], ◌∷◌, codes, refl}
use Rattle.sqlite_tied.specs.Compute.{everything}
use Rattle.pid_tables.specs.Rows.Schema.{meta, account, item, submission, remark, receipt, item_since, pid_schema}
use Rattle.pid_tables.specs.Steps.MakingTables.{making, Creates}
use Rattle.pid_tables.proofs.MakerTexts.{known, create_meta, create_account, create_item, create_submission, create_remark, create_receipt, create_item_since, only_meta, only_account, only_item, only_submission, only_remark, only_receipt, only_item_since, meta_defined, account_defined, item_defined, submission_defined, remark_defined, receipt_defined, item_since_defined}

pub meta_creates : Creates [] create_meta meta
unfolding everything
meta_creates = record { known = known create_meta (codes "meta") (making []) only_meta refl; defined = meta_defined; tree = refl; alone = refl }

pub account_creates : Creates (meta ∷ []) create_account account
unfolding everything
account_creates = record { known = known create_account (codes "account") (making (meta ∷ [])) only_account refl; defined = account_defined; tree = refl; alone = refl }

pub item_creates : Creates (meta ∷ account ∷ []) create_item item
unfolding everything
item_creates = record { known = known create_item (codes "item") (making (meta ∷ account ∷ [])) only_item refl; defined = item_defined; tree = refl; alone = refl }

pub submission_creates : Creates (meta ∷ account ∷ item ∷ []) create_submission submission
unfolding everything
submission_creates = record { known = known create_submission (codes "submission") (making (meta ∷ account ∷ item ∷ [])) only_submission refl; defined = submission_defined; tree = refl; alone = refl }

pub remark_creates : Creates (meta ∷ account ∷ item ∷ submission ∷ []) create_remark remark
unfolding everything
remark_creates = record { known = known create_remark (codes "remark") (making (meta ∷ account ∷ item ∷ submission ∷ [])) only_remark refl; defined = remark_defined; tree = refl; alone = refl }

pub receipt_creates : Creates (meta ∷ account ∷ item ∷ submission ∷ remark ∷ []) create_receipt receipt
unfolding everything
receipt_creates = record { known = known create_receipt (codes "receipt") (making (meta ∷ account ∷ item ∷ submission ∷ remark ∷ [])) only_receipt refl; defined = receipt_defined; tree = refl; alone = refl }

pub item_since_creates : Creates (meta ∷ account ∷ item ∷ submission ∷ remark ∷ receipt ∷ []) create_item_since item_since
unfolding everything
item_since_creates = record { known = known create_item_since (codes "item_since") (making (meta ∷ account ∷ item ∷ submission ∷ remark ∷ receipt ∷ [])) only_item_since refl; defined = item_since_defined; tree = refl; alone = refl }

pub whole_schema : making (meta ∷ account ∷ item ∷ submission ∷ remark ∷ receipt ∷ item_since ∷ []) ≡ pid_schema
whole_schema = refl
