mod Words
mod SureLaws
mod NameLaws
mod ActLaws
mod PutLaws
mod LossLaws
mod GetLaws
mod MendLaws
